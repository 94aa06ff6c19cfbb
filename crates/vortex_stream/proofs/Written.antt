-- What was written so far of some bytes.
use Rattle.std.proofs.Common.{◌≡◌, ℕ, List, ◌++◌, take, drop, Option, sym, ap, ◌∙◌, append_assoc, take-append-drop}
use Rattle.std.specs.Io.KnownBytes.{Appends}
use Rattle.std.proofs.KnownBytes.{Appends-trans}

-- the bytes are those written since, and the rest
abbrev pub WrittenPart : Option (List ℕ) → Option (List ℕ) → List ℕ → List ℕ → Type 0
WrittenPart old new bytes rest = (done : List ℕ) × (bytes ≡ done ++ rest) × Appends old new done

pub written_more : (a b c : Option (List ℕ)) (bytes rest : List ℕ) (count : ℕ) → WrittenPart a b bytes rest → Appends b c (take count rest) → WrittenPart a c bytes (drop count rest)
written_more a b c bytes rest count p q =
    let parts : bytes ≡ (p.0 ++ take count rest) ++ drop count rest = p.1 ∙ ap (λ (l : List ℕ). p.0 ++ l) (sym (take-append-drop count rest)) ∙ sym (append_assoc p.0 (take count rest) (drop count rest)) in
    (p.0 ++ take count rest, parts, Appends-trans a b c p.0 (take count rest) p.2 q)
