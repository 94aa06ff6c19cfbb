use Rattle.std.proofs.Common.{rules, ◌≡◌, ◌+◌, [], ◌∷◌, ◌++◌, ap, ◌∙◌, length, arith}
use Rattle.std.specs.Option.{option_map}
use Rattle.vortex_codes.specs.Keys.{Key, keys_of}
use Rattle.vortex_codes.specs.Table.{IsTree}
use Rattle.vortex_codes.proofs.KeyLemmas.{length-keys_of}
use Rattle.vortex_codes.proofs.OrderLemmas.{tree_more, tree_stays}
use Rattle.vortex_codes.proofs.ordered.add_ordered.Goals.{After-null_after}
use Rattle.vortex_codes.proofs.ordered.add_ordered.Goals as goal

whole : (c : After-null_after) → let bs = c.push_piece.new.bytes.items in let os = c.push_piece.new.offsets.items in let n = c.null_after.result in
    IsTree bs os n c.insert.new.codes
    × (keys_of bs os n ≡ keys_of c.args.bytes.now.items c.args.offsets.now.items c.args.null.now ++ option_map (λ k. k.now) c.args.key ∷ [])
whole c =
    let bytes = c.args.bytes.now.items in
    let offsets = c.args.offsets.now.items in
    let key : Key = option_map (λ k. k.now) c.args.key in
    let p = c.piece_of-piece.ensures in
    let size = ap length p in
    let b0 = c.in_ok-reserve_piece.ensures.bytes in
    let o0 = c.in_ok-reserve_piece.ensures.offsets in
    let some = c.requires.table.parted.some in
    let code = c.in_ok-code.ensures.code in
    tree_more _ _ _ _ c.requires.table key c.requires.new _ _ _ _ _
    (c.push_piece.ensures.bytes ∙ ap (λ bs. bs ++ c.piece_of-piece.result.now) b0 ∙ ap (λ b. bytes ++ b) p)
    (c.push_piece.ensures.offsets ∙ ap (λ bs. c.reserve_piece.new.offsets.items ++ (length bs + length c.piece_of-piece.result.now) ∷ []) b0 ∙ ap (λ os. os ++ (length bytes + length c.piece_of-piece.result.now) ∷ []) o0 ∙ ap (λ b. offsets ++ (length bytes + length b) ∷ []) p)
    (search rules) c.null_after.ensures (search rules) (search rules) c.in_ok-insert.ensures.inserted

pub returns-in_err-insert-clause-table : goal.returns-in_err-insert-clause-table
returns-in_err-insert-clause-table c = tree_stays _ _ _ _ _ _ _ c.requires.table c.in_ok-reserve_piece.ensures.bytes c.in_ok-reserve_piece.ensures.offsets c.in_err-insert.ensures.stays

pub returns-clause-table : goal.returns-clause-table
returns-clause-table c = (whole c).0

pub returns-clause-keys : goal.returns-clause-keys
returns-clause-keys c = (whole c).1

pub returns-clause-code : goal.returns-clause-code
returns-clause-code c =
    let n = length-keys_of c.args.bytes.now.items c.args.offsets.now.items c.args.null.now in
    let few : c.len-2.result ≡ length c.args.offsets.now.items = search rules in
    let next = c.in_ok-code.ensures.code.0 in
    omega (arith, n, few, next)
