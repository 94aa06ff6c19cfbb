use Rattle.std.proofs.Common.{refl, ap, arith, Err, map}
use Rattle.std.proofs.lemmas.List.{length-map, map-id}
use Rattle.vortex_dict.specs.KeyRows.{bytes_or_null}
use Rattle.vortex_dict.specs.Limits.{byte_count}
use Rattle.vortex_dict.proofs.LawLemmas.{bytes_whole, bytes_large, small_whole}
use Rattle.vortex_dict.proofs.ValueLemmas.{err_is}
use Rattle.vortex_dict.proofs.columns.encode_all_bytes.Goals as goal

pub returns-in-Err-clause-too_large : goal.returns-in-Err-clause-too_large
returns-in-Err-clause-too_large c =
    λ h. bytes_large c.in_ok-encoder.encoder (map bytes_or_null c.args.rows.now) c.in_ok-encoder.ensures.made
    (c.in-Err.ensures.too_large (ap (λ x. Err x) (err_is _ _ _ _ refl refl h)))

pub returns-clause-values : goal.returns-clause-values
returns-clause-values c =
    (bytes_whole c.in_ok-encoder.encoder (map bytes_or_null c.args.rows.now) c.encode.new.self.values c.in-Ok.codes.items _ c.in_ok-encoder.ensures.made
    c.in-Ok.ensures.encoded (map-id c.in-Ok.codes.items) c.law-2.ensures.few c.law-2.ensures.small
    (λ i l. c.law.ensures i (let n = length-map c.args.rows.now bytes_or_null in omega (arith, n, l)))).0

pub returns-clause-codes : goal.returns-clause-codes
returns-clause-codes c =
    (bytes_whole c.in_ok-encoder.encoder (map bytes_or_null c.args.rows.now) c.encode.new.self.values c.in-Ok.codes.items _ c.in_ok-encoder.ensures.made
    c.in-Ok.ensures.encoded (map-id c.in-Ok.codes.items) c.law-2.ensures.few c.law-2.ensures.small
    (λ i l. c.law.ensures i (let n = length-map c.args.rows.now bytes_or_null in omega (arith, n, l)))).1

pub returns-clause-full : goal.returns-clause-full
returns-clause-full c =
    λ h. absurd (small_whole byte_count (map bytes_or_null c.args.rows.now) c.encode.new.self.values
    ((bytes_whole c.in_ok-encoder.encoder (map bytes_or_null c.args.rows.now) c.encode.new.self.values c.in-Ok.codes.items _ c.in_ok-encoder.ensures.made
    c.in-Ok.ensures.encoded (map-id c.in-Ok.codes.items) c.law-2.ensures.few c.law-2.ensures.small
    (λ i l. c.law.ensures i (let n = length-map c.args.rows.now bytes_or_null in omega (arith, n, l)))).0) c.law-2.ensures.small h)
