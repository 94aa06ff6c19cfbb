use Rattle.std.proofs.Common.{refl, ap, Err, map}
use Rattle.std.proofs.lemmas.List.{map-id}
use Rattle.vortex_number.specs.PType.{byte_width_of}
use Rattle.vortex_dict.specs.KeyRows.{number_or_null}
use Rattle.vortex_dict.proofs.LawLemmas.{numbers_whole, numbers_large, small_whole}
use Rattle.vortex_dict.proofs.ValueLemmas.{err_is}
use Rattle.vortex_dict.proofs.columns.encode_all_numbers.Goals as goal

pub returns-in-Err-clause-too_large : goal.returns-in-Err-clause-too_large
returns-in-Err-clause-too_large g c =
    λ h. numbers_large g.T.NativePType.PTYPE c.new-encoder.result (map (number_or_null g.T.WholeNumber.number) c.args.rows.now) c.new-encoder.ensures
    (c.in-Err.ensures.too_large (ap (λ x. Err x) (err_is _ _ _ _ refl refl h)))

pub returns-clause-values : goal.returns-clause-values
returns-clause-values g c =
    (numbers_whole g.T.NativePType.PTYPE c.new-encoder.result (map (number_or_null g.T.WholeNumber.number) c.args.rows.now) c.encode.new.self.values c.in-Ok.codes.items _ c.new-encoder.ensures
    c.in-Ok.ensures.encoded (map-id c.in-Ok.codes.items) c.law.ensures.few).0

pub returns-clause-codes : goal.returns-clause-codes
returns-clause-codes g c =
    (numbers_whole g.T.NativePType.PTYPE c.new-encoder.result (map (number_or_null g.T.WholeNumber.number) c.args.rows.now) c.encode.new.self.values c.in-Ok.codes.items _ c.new-encoder.ensures
    c.in-Ok.ensures.encoded (map-id c.in-Ok.codes.items) c.law.ensures.few).1

pub returns-clause-full : goal.returns-clause-full
returns-clause-full g c =
    λ h. absurd (small_whole (λ r. byte_width_of g.T.NativePType.PTYPE) (map (number_or_null g.T.WholeNumber.number) c.args.rows.now) c.encode.new.self.values
    ((numbers_whole g.T.NativePType.PTYPE c.new-encoder.result (map (number_or_null g.T.WholeNumber.number) c.args.rows.now) c.encode.new.self.values c.in-Ok.codes.items _ c.new-encoder.ensures
    c.in-Ok.ensures.encoded (map-id c.in-Ok.codes.items) c.law.ensures.few).0) c.law.ensures.small h)
