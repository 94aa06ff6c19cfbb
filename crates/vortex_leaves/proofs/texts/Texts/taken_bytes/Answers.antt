use Rattle.std.proofs.Common.{◌∙◌, sym}
use Rattle.std.specs.Option.{option_map}
use Rattle.vortex_leaves.specs.Texts.{text_pieces}
use Rattle.vortex_leaves.proofs.Joined.{bytes_hidden, bytes_shown}
use Rattle.vortex_leaves.proofs.texts.Texts.taken_bytes.Goals as goal
use Rattle.vortex_leaves.proofs.texts.Texts.taken_bytes.Goals.{then-shows+in_ok-extend_from_slice, else-shows}

pub loop-place-preserved : goal.loop-place-preserved
loop-place-preserved c =
    elim c.if-shows.branch [
      | then-shows+in_ok-extend_from_slice w ↦ rw w.bytes-is (bytes_shown (option_map (λ m. m.now) c.args.valid) (text_pieces c.args.self.now) c.args.places.now c.loop-place.place-index w.piece.result.now c.loop-place.bytes.items w.extend_from_slice.new.self.items c.loop-place-test.true (sym c.shows.ensures ∙ w.if-shows.true) w.piece.ensures c.loop-place.invariant w.in_ok-extend_from_slice.ensures.items)
      | else-shows w ↦ rw w.bytes-is (bytes_hidden (option_map (λ m. m.now) c.args.valid) (text_pieces c.args.self.now) c.args.places.now c.loop-place.place-index c.loop-place.bytes.items c.loop-place-test.true (sym c.shows.ensures ∙ w.if-shows.false) c.loop-place.invariant)
    ]
