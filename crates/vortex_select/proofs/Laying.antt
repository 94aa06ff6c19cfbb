-- What is laid out, and how the messages are put together of it.
use Rattle.std.proofs.Common.{◌≡◌, ℕ, ◌+◌, ◌/◌, ◌≤◌, List, ◌++◌, length, take, drop, Option, Some, refl, sym, ap, ◌∙◌, subst, append_assoc, length-append, length-take, arith}
use Rattle.std.specs.Prelude.{IsSome, IfOk, Vec, Result, Ok, Err}
use Rattle.std.specs.Global.{Global}
use Rattle.std.specs.declared.alloc.AllocError.{AllocError}
use Rattle.std.specs.Int.{w32, to_le_bytes}
use Rattle.std.proofs.lemmas.List.{take_at, drop_at, drop-drop}
use Rattle.vortex_flat.specs.Tree.{Tree}
use Rattle.vortex_flat.specs.Layout.{layout_of}
use Rattle.vortex_select.specs.Layout.{array_header, body_end}

-- ---- one layout

-- what is laid out for an item whose tree has a listed layout
pub has_layout : (t t' : Tree) (b : List ℕ) → t ≡ t' → layout_of t' ≡ Some b → IsSome (layout_of t)
has_layout t t' b e laid = subst (λ (found : Option (List ℕ)). IsSome found) (sym (ap layout_of e ∙ laid)) refl

pub laid_out_as : (r : Result (Vec ℕ Global) AllocError) (t t' : Tree) (b : List ℕ) → t ≡ t' → layout_of t' ≡ Some b → IfOk r (λ v. layout_of t ≡ Some v.items) → IfOk r (λ v. v.items ≡ b)
laid_out_as (Ok v) t t' b e laid h = cc
laid_out_as (Err x) t t' b e laid h = tt

-- ---- lengths before headers

-- a number of four bytes before the bytes that it counts
abbrev pub counted : List ℕ → List ℕ
counted xs = to_le_bytes w32 (length xs) ++ xs

pub header_counted : (header : List ℕ) (rows size : ℕ) → header ≡ drop 4 (array_header rows size) → counted header ≡ array_header rows size
header_counted header rows size e = ap counted e

-- two pieces, one after the other, over the bytes from a place on
pub put_twice : (b0 b1 b2 piece p q : List ℕ) (at : ℕ) → piece ≡ p → at + (length p + length q) ≤ length b0
    → b1 ≡ take at b0 ++ (piece ++ drop (at + length piece) b0) → b2 ≡ take (at + length p) b1 ++ (q ++ drop (at + length p + length q) b1)
    → b2 ≡ take at b0 ++ ((p ++ q) ++ drop (at + (length p + length q)) b0)
put_twice b0 b1 b2 piece p q at e0 room e1 e2 =
    let front = take at b0 ++ p in
    let k = at + length p in
    let len : length front ≡ k = omega (arith, length-append (take at b0) p, length-take at b0) in
    let split : b1 ≡ front ++ drop k b0 = e1 ∙ ap (λ (l : List ℕ). take at b0 ++ (l ++ drop (at + length l) b0)) e0 ∙ sym (append_assoc (take at b0) p (drop k b0)) in
    let first : take k b1 ≡ front = ap (take k) split ∙ take_at front (drop k b0) k len in
    let behind : drop k b1 ≡ drop k b0 = ap (drop k) split ∙ drop_at front (drop k b0) k len in
    let last : drop (k + length q) b1 ≡ drop (k + length q) b0 = sym (drop-drop (length q) k b1) ∙ ap (drop (length q)) behind ∙ drop-drop (length q) k b0 in
    let both : b2 ≡ front ++ (q ++ drop (k + length q) b0) = e2 ∙ ap (λ (l : List ℕ). l ++ (q ++ drop (k + length q) b1)) first ∙ ap (λ (l : List ℕ). front ++ (q ++ l)) last in
    let place : k + length q ≡ at + (length p + length q) = omega arith in
    let joined : front ++ (q ++ drop (k + length q) b0) ≡ take at b0 ++ ((p ++ q) ++ drop (k + length q) b0) = simp append_assoc in
    both ∙ joined ∙ ap (λ j. take at b0 ++ ((p ++ q) ++ drop j b0)) place

-- a frame around the region behind the room for its header
pub frame_put : (o o1 o2 o3 header flat end : List ℕ) (start len : ℕ) → header ≡ drop 4 (array_header (len / 8) (len + 116)) → flat ≡ take 112 (body_end len) → end ≡ to_le_bytes w32 (length flat)
    → o1 ≡ take start o ++ (counted header ++ drop (start + (4 + length header)) o) → o2 ≡ o1 ++ flat → o3 ≡ o2 ++ end
    → o3 ≡ (take start o ++ (array_header (len / 8) (len + 116) ++ drop (start + 108) o)) ++ body_end len
frame_put o o1 o2 o3 header flat end start len e-header e-flat e-end e1 e2 e3 =
    let whole = array_header (len / 8) (len + 116) in
    let head : counted header ≡ whole = header_counted header (len / 8) (len + 116) e-header in
    let wide : start + (4 + length header) ≡ start + 108 = omega (arith, ap length e-header) in
    let front : o1 ≡ take start o ++ (whole ++ drop (start + 108) o) = e1 ∙ ap (λ (l : List ℕ). take start o ++ (l ++ drop (start + (4 + length header)) o)) head ∙ ap (λ j. take start o ++ (whole ++ drop j o)) wide in
    let last : flat ++ end ≡ body_end len = ap (λ (l : List ℕ). flat ++ l) e-end ∙ ap (λ (l : List ℕ). l ++ to_le_bytes w32 (length l)) e-flat in
    e3 ∙ ap (λ (l : List ℕ). l ++ end) e2 ∙ append_assoc o1 flat end ∙ ap (λ (l : List ℕ). o1 ++ l) last ∙ ap (λ (l : List ℕ). l ++ body_end len) front
