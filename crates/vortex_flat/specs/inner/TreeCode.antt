-- How trees are stored, so that a struct's model may be one, and how heavy they are.
use Rattle.std.specs.Prelude.{◌≡◌, ℕ, suc, ◌+◌, List, refl}
use Rattle.std.specs.Coded.{Coded, coded_ℕ, coded_ℤ, coded_list}
use Rattle.std.proofs.Common.{ap, arith}
use base.Stored.{Gv, gnil, gnum, gcons, num}
use Rattle.vortex_flat.specs.Tree.{Wide, one, two, four, eight, wide, Tree, table, offsets, bytes, text, numbers, records, SlotTrees, no_slots, absent, number_slot, signed_slot, target_slot, Trees, no_trees, tree}

-- how a list of numbers is stored
abbrev coded_bytes : Coded (List ℕ)
coded_bytes = coded_list coded_ℕ

-- a tree, slots and trees, as they are stored: each constructor by a number and its parts
abbrev mutual
  pub tree_code : Tree → Gv
  tree_code (table s) = gcons (gnum 0) (slots_code s)
  tree_code (offsets ts) = gcons (gnum 1) (trees_code ts)
  tree_code (bytes xs) = gcons (gnum 2) (coded_bytes.code xs)
  tree_code (text xs) = gcons (gnum 3) (coded_bytes.code xs)
  tree_code (numbers xs) = gcons (gnum 4) (coded_bytes.code xs)
  tree_code (records xs) = gcons (gnum 5) (coded_bytes.code xs)

  pub slots_code : SlotTrees → Gv
  slots_code no_slots = gcons (gnum 0) gnil
  slots_code (absent s) = gcons (gnum 1) (slots_code s)
  slots_code (number_slot w n s) =
      gcons (gnum 2) (gcons (gcons (gnum (wide w)) (gnum n)) (slots_code s))
  slots_code (signed_slot z s) = gcons (gnum 3) (gcons (coded_ℤ.code z) (slots_code s))
  slots_code (target_slot t s) = gcons (gnum 4) (gcons (tree_code t) (slots_code s))

  pub trees_code : Trees → Gv
  trees_code no_trees = gnil
  trees_code (tree t ts) = gcons (tree_code t) (trees_code ts)

-- the first part of a pair that is stored
abbrev pub left : Gv → Gv
left gnil = gnil
left (gnum n) = gnil
left (gcons a b) = a

-- the second part of a pair that is stored
abbrev pub right : Gv → Gv
right gnil = gnil
right (gnum n) = gnil
right (gcons a b) = b

-- widths of as many bytes are the same
wide-inj : (v w : Wide) → wide v ≡ wide w → v ≡ w
wide-inj one one e = refl
wide-inj two two e = refl
wide-inj four four e = refl
wide-inj eight eight e = refl
wide-inj _ _ e = absurd (omega arith)

-- what is stored alike is the same
mutual
  pub tree_code-inj : (t u : Tree) → tree_code t ≡ tree_code u → t ≡ u
  tree_code-inj (table s) (table r) e = λ i. table (slots_code-inj s r (ap right e) i)
  tree_code-inj (offsets ts) (offsets us) e = λ i. offsets (trees_code-inj ts us (ap right e) i)
  tree_code-inj (bytes xs) (bytes ys) e = λ i. bytes (coded_bytes.inj xs ys (ap right e) i)
  tree_code-inj (text xs) (text ys) e = λ i. text (coded_bytes.inj xs ys (ap right e) i)
  tree_code-inj (numbers xs) (numbers ys) e = λ i. numbers (coded_bytes.inj xs ys (ap right e) i)
  tree_code-inj (records xs) (records ys) e = λ i. records (coded_bytes.inj xs ys (ap right e) i)
  tree_code-inj _ _ e = absurd (omega (arith, ap (λ g. num (left g)) e))

  pub slots_code-inj : (s r : SlotTrees) → slots_code s ≡ slots_code r → s ≡ r
  slots_code-inj no_slots no_slots e = refl
  slots_code-inj (absent s) (absent r) e = λ i. absent (slots_code-inj s r (ap right e) i)
  slots_code-inj (number_slot v n s) (number_slot w m r) e =
      λ i. number_slot (wide-inj v w (ap (λ g. num (left (left (right g)))) e) i)
      (ap (λ g. num (right (left (right g)))) e i) (slots_code-inj s r (ap (λ g. right (right g)) e) i)
  slots_code-inj (signed_slot z s) (signed_slot y r) e =
      λ i. signed_slot (coded_ℤ.inj z y (ap (λ g. left (right g)) e) i)
      (slots_code-inj s r (ap (λ g. right (right g)) e) i)
  slots_code-inj (target_slot t s) (target_slot u r) e =
      λ i. target_slot (tree_code-inj t u (ap (λ g. left (right g)) e) i)
      (slots_code-inj s r (ap (λ g. right (right g)) e) i)
  slots_code-inj _ _ e = absurd (omega (arith, ap (λ g. num (left g)) e))

  pub trees_code-inj : (ts us : Trees) → trees_code ts ≡ trees_code us → ts ≡ us
  trees_code-inj no_trees no_trees e = refl
  trees_code-inj (tree t ts) (tree u us) e =
      λ i. tree (tree_code-inj t u (ap left e) i) (trees_code-inj ts us (ap right e) i)
  trees_code-inj _ _ e = absurd (cc)

-- how a tree is stored
abbrev pub coded_tree : Coded Tree
coded_tree = record { code = tree_code; inj = tree_code-inj }

-- how slots are stored
abbrev pub coded_slots : Coded SlotTrees
coded_slots = record { code = slots_code; inj = slots_code-inj }

-- how trees are stored
abbrev pub coded_trees : Coded Trees
coded_trees = record { code = trees_code; inj = trees_code-inj }

-- how many constructors there are
abbrev mutual
  pub tree_weight : Tree → ℕ
  tree_weight (table s) = suc (slots_weight s)
  tree_weight (offsets ts) = suc (trees_weight ts)
  tree_weight (bytes xs) = 1
  tree_weight (text xs) = 1
  tree_weight (numbers xs) = 1
  tree_weight (records xs) = 1

  pub slots_weight : SlotTrees → ℕ
  slots_weight no_slots = 1
  slots_weight (absent s) = suc (slots_weight s)
  slots_weight (number_slot w n s) = suc (slots_weight s)
  slots_weight (signed_slot z s) = suc (slots_weight s)
  slots_weight (target_slot t s) = suc (tree_weight t + slots_weight s)

  pub trees_weight : Trees → ℕ
  trees_weight no_trees = 1
  trees_weight (tree t ts) = suc (tree_weight t + trees_weight ts)
