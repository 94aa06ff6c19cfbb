-- The arrays of fields, one after the other.
use Rattle.std.proofs.Common.{◌≡◌, ◌≤◌, ◌<◌, ◌+◌, ◌-◌, ◌∙◌, get_or, take, drop, inr, ℕ, zero, suc, List, [], ◌∷◌, ◌++◌, Bool, Option, Some, None, length, refl, sym, ap, subst, arith}
use Rattle.std.specs.Option.{option_map}
use Rattle.std.proofs.lemmas.List.{append-nil, append_assoc}
use Rattle.vortex_prelude.specs.Chain.{◌>>=◌}
use Rattle.vortex_terms.specs.Term.{Term, Fields, no_fields, field}
use Rattle.vortex_terms.specs.Types.{field_at, field_count}
use Rattle.vortex_terms.specs.Row.{Row}
use Rattle.vortex_types.proofs.Fields.{fields_drop, drop_all}
use Rattle.vortex_body.specs.Node.{Node, Nodes, no_nodes, child, node_count, nodes_count, nodes_from}
use Rattle.vortex_node_rows.specs.declared.encoding.Encoding.{Encoding}
use Rattle.vortex_node_rows.specs.ByteNode.{AreByteNodes, IsByteNode}
use Rattle.vortex_node_rows.specs.RowsOf.{Validity, rows_of, validity_of, field_rows_of}
use Rattle.vortex_node_rows.proofs.RowsCounted.{rows_count}
use Rattle.vortex_node_rows.proofs.Options.{some_same, none_some}
use Rattle.vortex_array_data.specs.declared.error.ArrayError.{ArrayError}
use Rattle.vortex_array_data.specs.declared.error.ArrayError.TheVariants as error
use Rattle.vortex_array_data.specs.Answers.{Refuses}
use Rattle.vortex_array_decode.proofs.Nodes.{first_rest, none_left}
use Rattle.vortex_array_decode.proofs.Refusals.{refused}
use Rattle.vortex_array_data.specs.ArrayNode.{ArrayNodes, array_child, array_nodes_before}
use Rattle.vortex_array_decode.specs.Agreement.{Agrees, PartsAgree}
use Rattle.vortex_array_decode.specs.inner.Agreeing.{field_parts}
use Rattle.vortex_array_data.specs.Column.{Column}
use Rattle.vortex_array_data.specs.Content.{column_nodes, column_rows, mask_nodes, AreFields}
use Rattle.vortex_array_data.proofs.FieldTypes.{at_place}
use Rattle.vortex_array_decode.proofs.Agreements.{mask_aside, nodes_joined}

-- columns, and what is found behind them
abbrev pub joined : List (List Row) → Option (List (List Row) × Validity) → Option (List (List Row) × Validity)
joined rs found = option_map (λ q. (rs ++ q.0, q.1)) found

-- the columns of the first i fields, and what the rest gives, are those of all
pub record AreSoFar (f : ℕ → Option Encoding) (nodes : Nodes) (rest : Nodes) (fs : Fields) (nl : Bool) (n : ℕ) (i : ℕ)
    (cs : List Column) : Type 0 where
  pub found : joined (column_rows cs) (field_rows_of f rest (fields_drop i fs) nl n) ≡ field_rows_of f nodes fs nl n
  pub fit : (ds : List Column) → AreFields n (fields_drop i fs) ds → AreFields n fs (cs ++ ds)
  pub agree : (ds : ArrayNodes) → PartsAgree f n (field_parts (fields_drop i fs) n) rest ds
      → PartsAgree f n (field_parts fs n) nodes (array_nodes_before (column_nodes cs) ds)
  pub fewer : nodes_count rest ≤ nodes_count nodes
  pub bytes : AreByteNodes rest

joined_none : (o : Option (List (List Row) × Validity)) → joined [] o ≡ o
joined_none None = refl
joined_none (Some q) = refl

pub begun : (f : ℕ → Option Encoding) (nodes : Nodes) (fs : Fields) (nl : Bool) (n : ℕ) → AreByteNodes nodes
    → AreSoFar f nodes nodes fs nl n 0 []
begun f nodes fs nl n h = record {
  found = joined_none (field_rows_of f nodes fs nl n);
  fit = λ ds k. k;
  agree = λ ds k. k;
  fewer = omega arith;
  bytes = h;
}

-- the fields from a place on begin with the one at it
drop_step : (fs : Fields) (i : ℕ) (t : Term) → field_at fs i ≡ Some t
    → (x : List ℕ) × (fields_drop i fs ≡ field x t (fields_drop (suc i) fs))
drop_step no_fields i t e = absurd (none_some t e)
drop_step (field x u fs) zero t e = (x, ap (λ u. field x u fs) (some_same u t e))
drop_step (field x u fs) (suc i) t e = drop_step fs i t e

rows_joined : (cs : List Column) (c : Column) (rss : List (List Row))
    → column_rows cs ++ (c.rows ∷ rss) ≡ column_rows (cs ++ (c ∷ [])) ++ rss
rows_joined [] c rss = refl
rows_joined (d ∷ cs) c rss = ap (λ l. d.rows ∷ l) (rows_joined cs c rss)

one_more : (cs : List Column) (c : Column) (o : Option (List (List Row) × Validity))
    → joined (column_rows cs) (o >>= λ q. Some (c.rows ∷ q.0, q.1)) ≡ joined (column_rows (cs ++ (c ∷ []))) o
one_more cs c None = refl
one_more cs c (Some q) = ap (λ (l : List (List Row)). Some (l, q.1)) (rows_joined cs c q.0)

-- the rest of a walk that begins with a field
first_found : (f : ℕ → Option Encoding) (x : Node) (rest : Nodes) (nl : Bool) (n : ℕ) (t : Term) (gs hs : Fields)
    (name : List ℕ)
    → gs ≡ field name t hs
    → field_rows_of f (child x rest) gs nl n ≡ (rows_of f x t n >>= λ rs. field_rows_of f rest hs nl n >>= λ q. Some
    (rs ∷ q.0, q.1))
unfolding rows_of
first_found f x rest nl n t gs hs name e = rw e refl

no_nodes_left : (f : ℕ → Option Encoding) (nl : Bool) (n : ℕ) (t : Term) (gs hs : Fields) (name : List ℕ)
    → gs ≡ field name t hs → field_rows_of f no_nodes gs nl n ≡ None
unfolding rows_of
no_nodes_left f nl n t gs hs name e = rw e refl

pub stepped : (f : ℕ → Option Encoding) (nodes : Nodes) (x : Node) (rest : Nodes) (fs : Fields) (nl : Bool) (n i : ℕ)
    (cs : List Column) (c : Column) (t : Term)
    → AreSoFar f nodes (child x rest) fs nl n i cs → Some t ≡ field_at fs i → rows_of f x t n ≡ Some c.rows
    → c.dtype ≡ t → length c.rows ≡ n → Agrees f t (Some n) x c.node
    → AreSoFar f nodes rest fs nl n (suc i) (cs ++ (c ∷ []))
stepped f nodes x rest fs nl n i cs c t h e found type count agrees =
    let step = drop_step fs i t (sym e) in
    let after = fields_drop (suc i) fs in
    record {
      found = sym (ap (joined (column_rows cs)) (first_found f x rest nl n t (fields_drop i fs) after step.0 step.1
          ∙ ap (λ (o : Option (List Row)). o >>= λ rs. field_rows_of f rest after nl n >>= λ q. Some
          (rs ∷ q.0, q.1)) found)
          ∙ one_more cs c (field_rows_of f rest after nl n)) ∙ h.found;
      fit = λ ds k. subst (AreFields n fs) (sym (append_assoc cs (c ∷ []) ds))
          (h.fit (c ∷ ds) (subst (λ (gs : Fields). AreFields n gs (c ∷ ds)) (sym step.1) ((type, count), k)));
      agree = λ ds k. subst (PartsAgree f n (field_parts fs n) nodes) (nodes_joined cs c ds)
          (h.agree (array_child c.node ds) (subst (λ (gs : Fields). PartsAgree f n (field_parts gs n) (child x rest)
          (array_child c.node ds)) (sym step.1) (agrees, k)));
      fewer = omega (arith, h.fewer);
      bytes = h.bytes.1;
    }

-- a field of which nothing is found leaves nothing
pub stopped : (f : ℕ → Option Encoding) (nodes : Nodes) (x : Node) (rest : Nodes) (fs : Fields) (nl : Bool) (n i : ℕ)
    (cs : List Column) (t : Term)
    → AreSoFar f nodes (child x rest) fs nl n i cs → Some t ≡ field_at fs i → rows_of f x t n ≡ None
    → field_rows_of f nodes fs nl n ≡ None
stopped f nodes x rest fs nl n i cs t h e found =
    let step = drop_step fs i t (sym e) in
    let after = fields_drop (suc i) fs in
    sym h.found ∙ ap (joined (column_rows cs)) (first_found f x rest nl n t (fields_drop i fs) after step.0 step.1
    ∙ ap (λ (o : Option (List Row)). o >>= λ rs. field_rows_of f rest after nl n >>= λ q. Some (rs ∷ q.0, q.1)) found)

-- so does a field without a node
pub too_few : (f : ℕ → Option Encoding) (nodes : Nodes) (fs : Fields) (nl : Bool) (n i : ℕ) (cs : List Column)
    → AreSoFar f nodes no_nodes fs nl n i cs → i < field_count fs → field_rows_of f nodes fs nl n ≡ None
too_few f nodes fs nl n i cs h k =
    let here = at_place fs i k in
    let step = drop_step fs i here.0 here.1 in
    sym h.found ∙ ap (joined (column_rows cs)) (no_nodes_left f nl n here.0 (fields_drop i fs) (fields_drop
    (suc i) fs) step.0 step.1)

no_more : (f : ℕ → Option Encoding) (rest : Nodes) (nl : Bool) (n : ℕ)
    → field_rows_of f rest no_fields nl n ≡ option_map (λ v. ([], v)) (validity_of f rest nl n)
unfolding rows_of
no_more f no_nodes nl n = refl
no_more f (child x rest) nl n = refl

with_mask : (rs : List (List Row)) (o : Option Validity)
    → joined rs (option_map (λ v. ([], v)) o) ≡ option_map (λ v. (rs, v)) o
with_mask rs None = refl
with_mask rs (Some v) = ap (λ (l : List (List Row)). Some (l, v)) (append-nil rs)

-- behind all fields the mask is left
pub ended : (f : ℕ → Option Encoding) (nodes rest : Nodes) (fs : Fields) (nl : Bool) (n i : ℕ) (cs : List Column)
    → AreSoFar f nodes rest fs nl n i cs → field_count fs ≡ i
    → field_rows_of f nodes fs nl n ≡ option_map (λ v. (column_rows cs, v)) (validity_of f rest nl n)
ended f nodes rest fs nl n i cs h k =
    sym h.found ∙ ap (joined (column_rows cs)) (ap (λ (gs : Fields). field_rows_of f rest gs nl n) (drop_all fs i k)
    ∙ no_more f rest nl n)
    ∙ with_mask (column_rows cs) (validity_of f rest nl n)

pub all_fit : (f : ℕ → Option Encoding) (nodes rest : Nodes) (fs : Fields) (nl : Bool) (n i : ℕ) (cs : List Column)
    → AreSoFar f nodes rest fs nl n i cs → field_count fs ≡ i → AreFields n fs cs
all_fit f nodes rest fs nl n i cs h k =
    subst (AreFields n fs) (append-nil cs) (h.fit [] (subst (λ (gs : Fields). AreFields n gs []) (sym
    (drop_all fs i k)) tt))

-- and the nodes of all agree
pub all_agree : (f : ℕ → Option Encoding) (nodes rest : Nodes) (fs : Fields) (nl : Bool) (n i : ℕ) (cs : List Column)
    (v : Validity)
    → AreSoFar f nodes rest fs nl n i cs → field_count fs ≡ i
    → PartsAgree f n (field_parts fs n) nodes (array_nodes_before (column_nodes cs) (mask_nodes n v))
all_agree f nodes rest fs nl n i cs v h k =
    h.agree (mask_nodes n v) (subst (λ (gs : Fields). PartsAgree f n (field_parts gs n) rest (mask_nodes n v)) (sym
    (drop_all fs i k)) (mask_aside n v))

-- the same of nodes in a slice
abbrev pub SoFar : (ℕ → Option Encoding) → Nodes → List Node → Fields → Bool → ℕ → ℕ → List Column → Type 0
SoFar f nodes rest fs nl n i cs = AreSoFar f nodes (nodes_from rest) fs nl n i cs

pub begun_with : (f : ℕ → Option Encoding) (nodes : Nodes) (fs : Fields) (nl : Bool) (n : ℕ) (cs : List Column)
    → cs ≡ [] → AreByteNodes nodes → AreSoFar f nodes nodes fs nl n 0 cs
begun_with f nodes fs nl n cs e h = subst (AreSoFar f nodes nodes fs nl n 0) (sym e) (begun f nodes fs nl n h)

pub too_few_refused : (f : ℕ → Option Encoding) (nodes : Nodes) (rest : List Node) (fs : Fields) (nl : Bool) (n i : ℕ)
    (cs : List Column)
    → SoFar f nodes rest fs nl n i cs → length rest < 1 → i < field_count fs
    → Refuses error.Malformed (field_rows_of f nodes fs nl n)
too_few_refused f nodes rest fs nl n i cs h e k =
    inr (
      refl,
      too_few f nodes fs nl n i cs
          (subst (λ (r : Nodes). AreSoFar f nodes r fs nl n i cs) (none_left rest e) h) k,
    )

parted : (f : ℕ → Option Encoding) (nodes : Nodes) (rest : List Node) (fs : Fields) (nl : Bool) (n i : ℕ)
    (cs : List Column) (x : Node)
    → SoFar f nodes rest fs nl n i cs → 1 ≤ length rest → x ≡ get_or rest 0 x
    → AreSoFar f nodes (child x (nodes_from (take (length rest - 1) (drop 1 rest)))) fs nl n i cs
parted f nodes rest fs nl n i cs x h some first =
    subst (λ (r : Nodes). AreSoFar f nodes r fs nl n i cs) (first_rest rest x some first) h

pub first_fewer : (f : ℕ → Option Encoding) (nodes : Nodes) (rest : List Node) (fs : Fields) (nl : Bool) (n i : ℕ)
    (cs : List Column) (x : Node)
    → SoFar f nodes rest fs nl n i cs → 1 ≤ length rest → x ≡ get_or rest 0 x → node_count x ≤ nodes_count nodes
first_fewer f nodes rest fs nl n i cs x h some first =
    omega (arith, (parted f nodes rest fs nl n i cs x h some first).fewer)

pub first_bytes : (f : ℕ → Option Encoding) (nodes : Nodes) (rest : List Node) (fs : Fields) (nl : Bool) (n i : ℕ)
    (cs : List Column) (x : Node)
    → SoFar f nodes rest fs nl n i cs → 1 ≤ length rest → x ≡ get_or rest 0 x → IsByteNode x
first_bytes f nodes rest fs nl n i cs x h some first = (parted f nodes rest fs nl n i cs x h some first).bytes.0

pub stopped_refused : (f : ℕ → Option Encoding) (nodes : Nodes) (rest : List Node) (fs : Fields) (nl : Bool) (n i : ℕ)
    (cs : List Column) (x : Node) (t : Term) (e : ArrayError)
    → SoFar f nodes rest fs nl n i cs → 1 ≤ length rest → x ≡ get_or rest 0 x → Some t ≡ field_at fs i
    → Refuses e (rows_of f x t n) → Refuses e (field_rows_of f nodes fs nl n)
stopped_refused f nodes rest fs nl n i cs x t e h some first here k =
    refused e (rows_of f x t n) (field_rows_of f nodes fs nl n)
    (λ none. stopped f nodes x (nodes_from (take (length rest - 1) (drop 1 rest))) fs nl n i cs t
    (parted f nodes rest fs nl n i cs x h some first) here none) k

pub pushed : (f : ℕ → Option Encoding) (nodes : Nodes) (rest : List Node) (fs : Fields) (nl : Bool) (n i : ℕ)
    (cs : List Column) (x : Node) (t : Term) (c : Column) (new : List Column)
    → SoFar f nodes rest fs nl n i cs → 1 ≤ length rest → x ≡ get_or rest 0 x → Some t ≡ field_at fs i
    → rows_of f x t n ≡ Some c.rows → c.dtype ≡ t → Agrees f t (Some n) x c.node → new ≡ cs ++ (c ∷ [])
    → AreSoFar f nodes (nodes_from (take (length rest - 1) (drop 1 rest))) fs nl n (i + 1) new
pushed f nodes rest fs nl n i cs x t c new h some first here found type agrees is =
    let others = nodes_from (take (length rest - 1) (drop 1 rest)) in
    let step : AreSoFar f nodes others fs nl n (suc i) (cs ++ (c ∷ [])) =
    stepped f nodes x others fs nl n i cs c t (parted f nodes rest fs nl n i cs x h some first) here found type
    (rows_count f x t n c.rows found) agrees in
    let next : suc i ≡ i + 1 = omega arith in
    subst (λ (j : ℕ). AreSoFar f nodes others fs nl n j new) next
    (subst (AreSoFar f nodes others fs nl n (suc i)) (sym is) step)

pub ended_refused : (f : ℕ → Option Encoding) (nodes : Nodes) (rest : List Node) (fs : Fields) (nl : Bool) (n i : ℕ)
    (cs : List Column) (e : ArrayError)
    → SoFar f nodes rest fs nl n i cs → field_count fs ≡ i → Refuses e (validity_of f (nodes_from rest) nl n)
    → Refuses e (field_rows_of f nodes fs nl n)
ended_refused f nodes rest fs nl n i cs e h k r =
    refused e (validity_of f (nodes_from rest) nl n) (field_rows_of f nodes fs nl n)
    (λ none. ended f nodes (nodes_from rest) fs nl n i cs h k ∙ ap (option_map (λ v. (column_rows cs, v))) none) r

pub ended_some : (f : ℕ → Option Encoding) (nodes : Nodes) (rest : List Node) (fs : Fields) (nl : Bool) (n i : ℕ)
    (cs : List Column) (v : Validity)
    → SoFar f nodes rest fs nl n i cs → field_count fs ≡ i → validity_of f (nodes_from rest) nl n ≡ Some v
    → field_rows_of f nodes fs nl n ≡ Some (column_rows cs, v)
ended_some f nodes rest fs nl n i cs v h k found =
    ended f nodes (nodes_from rest) fs nl n i cs h k ∙ ap (option_map (λ v. (column_rows cs, v))) found
