use Rattle.std.proofs.Common.{rules, ◌≡◌, ◌+◌, [], ◌∷◌, ◌++◌, ap, ◌∙◌, length, arith}
use Rattle.std.specs.Option.{option_map}
use Rattle.vortex_codes.specs.Keys.{Key, keys_of}
use Rattle.vortex_codes.specs.Table.{IsTable}
use Rattle.vortex_codes.proofs.KeyLemmas.{length-keys_of}
use Rattle.vortex_codes.proofs.TableLemmas.{table_more}
use Rattle.vortex_codes.proofs.hashed.add_hashed.Given.{Over}
use Rattle.vortex_codes.proofs.hashed.add_hashed.Goals.{After-put-far}
use Rattle.vortex_codes.proofs.hashed.add_hashed.Goals as goal

whole : (g : Over) (c : After-put-far g) → let bs = c.append.new.bytes.items in let os = c.append.new.offsets.items in let n = c.null_after.result in
    IsTable (g.H.KeyHash.hash_of c.args.hasher.now) bs os n c.put-far.new.slots.items
    × (keys_of bs os n ≡ keys_of c.args.bytes.now.items c.args.offsets.now.items c.args.null.now ++ option_map (λ k. k.now) c.args.key ∷ [])
whole g c =
    let bytes = c.args.bytes.now.items in
    let offsets = c.args.offsets.now.items in
    let key : Key = option_map (λ k. k.now) c.args.key in
    let p = c.piece_of-piece.ensures in
    let size = ap length p in
    let t = rw (c.as_slice.ensures.value, c.as_slice-2.ensures.value) at c.make_room.ensures.table in
    table_more _ _ _ _ _ t key c.requires.new _ _ _ _ _
    (c.in_ok-append.ensures.bytes ∙ ap (λ b. bytes ++ b) p)
    (c.in_ok-append.ensures.offsets ∙ ap (λ b. offsets ++ (length bytes + length b) ∷ []) p)
    (search rules) c.null_after.ensures (search rules) (search rules) c.put-far.ensures.more c.put-far.ensures.free
    (rw (← c.requires.hash) c.put-far.ensures.placed)

pub returns-clause-table : goal.returns-clause-table
returns-clause-table g c = (whole g c).0

pub returns-clause-keys : goal.returns-clause-keys
returns-clause-keys g c = (whole g c).1

pub returns-clause-code : goal.returns-clause-code
returns-clause-code g c =
    let n = length-keys_of c.args.bytes.now.items c.args.offsets.now.items c.args.null.now in
    let few : c.len-2.result ≡ length c.args.offsets.now.items = search rules in
    let next = c.in_ok-code.ensures.code.0 in
    omega (arith, n, few, next)
