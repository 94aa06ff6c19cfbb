-- What a crate above takes from `Reads`: a field, a target and an element at a place.
use Rattle.std.proofs.Common.{◌≡◌, ℕ, zero, suc, ◌+◌, ◌<◌, List, [], ◌∷◌, length, get_or, Option, Some, ap, subst, ◌∙◌, arith}
use Rattle.std.specs.Option.{option_map}
use Rattle.vortex_flat.specs.Numbers.{number}
use Rattle.vortex_prelude.specs.Chain.{◌>>=◌}
use Rattle.vortex_flat.specs.Targets.{VectorShape, element, if_present, follow, table_place, target_field, table_field, vector_at, vector_field, bytes_at, bytes_field, text_at, text_field, table_element, text_element}
use Rattle.vortex_flat.specs.Tree.{Tree, Trees, no_trees, tree, tree_at}
use Rattle.vortex_flat.specs.Reads.{Reads, ReadsNumbers, ReadsTrees}

at_target : {A : Type 0} (b : List ℕ) (p k q : ℕ) (f : ℕ → Option A) (x : A) → target_field b p k ≡ Some (Some q) → f q ≡ Some x → if_present (target_field b p k) f ≡ Some (Some x)
at_target b p k q f x e g = ap (λ (o : Option (Option ℕ)). if_present o f) e ∙ ap (option_map Some) g

-- a field that leads to a table, a text, bytes, a vector
pub table_field-at_target : (b : List ℕ) (p k q : ℕ) → target_field b p k ≡ Some (Some q) → table_place b q ≡ Some q → table_field b p k ≡ Some (Some q)
table_field-at_target b p k q e r = at_target b p k q (table_place b) q e r

pub text_field-at_target : (b : List ℕ) (p k q : ℕ) (xs : List ℕ) → target_field b p k ≡ Some (Some q) → text_at b q ≡ Some xs → text_field b p k ≡ Some (Some xs)
text_field-at_target b p k q xs e r = at_target b p k q (text_at b) xs e r

pub bytes_field-at_target : (b : List ℕ) (p k q : ℕ) (xs : List ℕ) → target_field b p k ≡ Some (Some q) → bytes_at b q ≡ Some xs → bytes_field b p k ≡ Some (Some xs)
bytes_field-at_target b p k q xs e r = at_target b p k q (bytes_at b) xs e r

pub vector_field-at_target : (b : List ℕ) (p k q w : ℕ) (v : VectorShape) → target_field b p k ≡ Some (Some q) → vector_at b q w ≡ Some v → vector_field b p k w ≡ Some (Some v)
vector_field-at_target b p k q w v e r = at_target b p k q (λ i. vector_at b i w) v e r

-- an element that leads to a table, a text
pub table_element-at_follow : (b : List ℕ) (v : VectorShape) (i q : ℕ) → follow b (element v i) ≡ Some q → table_place b q ≡ Some q → table_element b v i ≡ Some q
table_element-at_follow b v i q e r = ap (λ (o : Option ℕ). o >>= table_place b) e ∙ r

pub text_element-at_follow : (b : List ℕ) (v : VectorShape) (i q : ℕ) (xs : List ℕ) → follow b (element v i) ≡ Some q → text_at b q ≡ Some xs → text_element b v i ≡ Some xs
text_element-at_follow b v i q xs e r = ap (λ (o : Option ℕ). o >>= text_at b) e ∙ r

-- the number at a place of a vector
pub ReadsNumbers-at : (b : List ℕ) (v : VectorShape) (j : ℕ) (ns : List ℕ) (i : ℕ) → ReadsNumbers b v j ns → i < length ns → number b (element v (j + i)) v.width ≡ Some (get_or ns i 0)
ReadsNumbers-at b v j [] i r lt = absurd (omega arith)
ReadsNumbers-at b v j (n ∷ ns) zero r lt = ap (λ (k : ℕ). number b (element v k) v.width) (omega arith) ∙ r.0
ReadsNumbers-at b v j (n ∷ ns) (suc i) r lt =
    let place : j + suc i ≡ suc j + i = omega arith in
    ap (λ (k : ℕ). number b (element v k) v.width) place ∙ ReadsNumbers-at b v (suc j) ns i r.1 (omega arith)

-- the tree at a place of a vector, and where it stands
pub record StandsAt (b : List ℕ) (v : VectorShape) (i : ℕ) (t : Tree) : Type 0 where
  pub place : ℕ
  pub follows : follow b (element v i) ≡ Some place
  pub reads : Reads b place t

pub ReadsTrees-at : (b : List ℕ) (v : VectorShape) (j : ℕ) (ts : Trees) (i : ℕ) (t : Tree) → ReadsTrees b v j ts → tree_at ts i ≡ Some t → StandsAt b v (j + i) t
ReadsTrees-at b v j no_trees i t r e = absurd cc
ReadsTrees-at b v j (tree u ts) zero t r e =
    let same : u ≡ t = cc in
    let place : j + zero ≡ j = omega arith in
    record { place = r.0.0; follows = ap (λ (k : ℕ). follow b (element v k)) place ∙ r.0.1; reads = subst (λ (x : Tree). Reads b r.0.0 x) same r.0.2 }
ReadsTrees-at b v j (tree u ts) (suc i) t r e =
    let place : suc j + i ≡ j + suc i = omega arith in
    subst (λ (k : ℕ). StandsAt b v k t) place (ReadsTrees-at b v (suc j) ts i t r.1 e)
