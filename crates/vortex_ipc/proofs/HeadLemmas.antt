-- What is kept of a header, kind by kind.
use Rattle.std.specs.Prelude.{Bool, true, false, ◌&&◌, ◌==◌, IsSome, map}
use Rattle.std.proofs.Common.{◌≡◌, ℕ, ◌+◌, ◌-◌, ◌<◌, ◌≤◌, ◌++◌, suc, cond, leb, List, [], ◌∷◌, Option, Some, None, refl, sym, ap, subst, ◌∙◌, arith, append_assoc, append-nil}
use Rattle.std.specs.Option.{option_map}
use Rattle.std.proofs.lemmas.Bool.{le-leb, lt-leb, ne_eqb}
use Rattle.vortex_prelude.specs.Chain.{◌>>=◌}
use Rattle.vortex_prelude.specs.Absent.{or_zero}
use Rattle.vortex_prelude.specs.Elements.{elements}
use Rattle.vortex_flat.specs.Targets.{VectorShape, VectorView, number_field, text_element, vector_field, vector_view, or_empty}
use Rattle.vortex_stream.specs.Header.{Content, array_content, buffer_content, type_content, content_at, names_in, Header, MessageTable, header_of, message_table_of}
use Rattle.vortex_stream.specs.declared.kind.MessageKind.TheVariants.{Array, DType}
use Rattle.vortex_ipc.specs.Decoding.{all_held}
use Rattle.vortex_encodings.specs.Encodings.{is_listed}
use Rattle.vortex_ipc.specs.inner.Heads.{array_head_at, content_head, held_names, names_told, names_vector_of, texts_of}

-- ---- names

elements_more : {A : Type 0} (f : ℕ → Option A) (i n : ℕ) (x : A) → i < n → f i ≡ Some x → elements f i (n - i) ≡ option_map (λ xs. x ∷ xs) (elements f (i + 1) (n - (i + 1)))
elements_more f i n x lt e =
    let k : n - i ≡ suc (n - (i + 1)) = omega arith in
    rw (k, e) refl

elements_fail : {A : Type 0} (f : ℕ → Option A) (i n : ℕ) → i < n → f i ≡ None → elements f i (n - i) ≡ None
elements_fail f i n lt e =
    let k : n - i ≡ suc (n - (i + 1)) = omega arith in
    rw (k, e) refl

elements_end : {A : Type 0} (f : ℕ → Option A) (i n : ℕ) → n ≤ i → elements f i (n - i) ≡ Some []
elements_end f i n le =
    let k : n - i ≡ 0 = omega arith in
    rw k refl

and_more : (a b c : Bool) → a && (b && c) ≡ (a && b) && c
and_more true b c = refl
and_more false b c = refl

and_none : (a : Bool) → a && true ≡ a
and_none true = refl
and_none false = refl

known_more : (held : List (List ℕ)) (all : Bool) (x : List ℕ) (rest : Option (List (List ℕ))) → option_map (λ xs. all && all_held held xs) (option_map (λ xs. x ∷ xs) rest) ≡ option_map (λ xs. (all && is_listed held x) && all_held held xs) rest
known_more held all x None = refl
known_more held all x (Some xs) = ap Some (and_more all (is_listed held x) (all_held held xs))

-- one name more stands there
pub names_more : (held : List (List ℕ)) (f : ℕ → Option (List ℕ)) (i n : ℕ) (x : List ℕ) (all next : Bool) (total : Option Bool) → i < n → f i ≡ Some x → next ≡ (all && is_listed held x)
    → option_map (λ xs. all && all_held held xs) (elements f i (n - i)) ≡ total → option_map (λ xs. next && all_held held xs) (elements f (i + 1) (n - (i + 1))) ≡ total
names_more held f i n x all next total lt e step inv =
    ap (λ (t : Bool). option_map (λ xs. t && all_held held xs) (elements f (i + 1) (n - (i + 1)))) step
    ∙ sym (ap (option_map (λ xs. all && all_held held xs)) (elements_more f i n x lt e) ∙ known_more held all x (elements f (i + 1) (n - (i + 1)))) ∙ inv

-- one does not
pub names_fail : (held : List (List ℕ)) (f : ℕ → Option (List ℕ)) (i n : ℕ) (all : Bool) (total : Option Bool) → i < n → f i ≡ None → option_map (λ xs. all && all_held held xs) (elements f i (n - i)) ≡ total → total ≡ None
names_fail held f i n all total lt e inv = sym inv ∙ ap (option_map (λ xs. all && all_held held xs)) (elements_fail f i n lt e)

-- all stand there
pub names_end : (held : List (List ℕ)) (f : ℕ → Option (List ℕ)) (i n : ℕ) (all : Bool) (total : Option Bool) → n ≤ i → option_map (λ xs. all && all_held held xs) (elements f i (n - i)) ≡ total → total ≡ Some all
names_end held f i n all total le inv = sym inv ∙ ap (option_map (λ xs. all && all_held held xs)) (elements_end f i n le) ∙ ap Some (and_none all)

-- no more names than a header may have
pub few : (held : List (List ℕ)) (n : ℕ) (names : Option (List (List ℕ))) → n ≤ 65536 → held_names held (cond (leb n 65536) names None) ≡ held_names held names
few held n names le = ap (λ t. held_names held (cond t names None)) (le-leb n 65536 le)

pub many : (held : List (List ℕ)) (n : ℕ) (names : Option (List (List ℕ))) → 65536 < n → held_names held (cond (leb n 65536) names None) ≡ None
many held n names lt = ap (λ t. held_names held (cond t names None)) (lt-leb n 65536 lt)

-- one does not, where they are not too many
pub names_refused : (held : List (List ℕ)) (b : List ℕ) (v : VectorShape) (i : ℕ) (all : Bool) → i < v.count → v.count ≤ 65536 → text_element b v i ≡ None → option_map (λ xs. all && all_held held xs) (elements (text_element b v) i (v.count - i)) ≡ held_names held (elements (text_element b v) 0 v.count) → held_names held (names_in b v) ≡ None
names_refused held b v i all lt le e inv =
    few held v.count (elements (text_element b v) 0 v.count) le ∙ names_fail held (text_element b v) i v.count all (held_names held (elements (text_element b v) 0 v.count)) lt e inv

-- ---- texts

abbrev nothing : Option (List (List ℕ))
nothing = None

map_last : {T : Type 0} (view : T → List ℕ) (items : List T) (x : T) → map view (items ++ (x ∷ [])) ≡ map view items ++ (view x ∷ [])
map_last view [] x = refl
map_last view (y ∷ ys) x = ap (λ (l : List (List ℕ)). view y ∷ l) (map_last view ys x)

-- one text more stands there
pub texts_more : {T : Type 0} (view : T → List ℕ) (f : ℕ → Option (List ℕ)) (i n : ℕ) (items next : List T) (x : T) (total : Option (List (List ℕ))) → i < n → f i ≡ Some (view x) → next ≡ items ++ (x ∷ [])
    → option_map (λ (ys : List (List ℕ)). map view items ++ ys) (elements f i (n - i)) ≡ total → option_map (λ (ys : List (List ℕ)). map view next ++ ys) (elements f (i + 1) (n - (i + 1))) ≡ total
texts_more view f i n items next x total lt e step inv =
    ap (λ (l : List (List ℕ)). option_map (λ (ys : List (List ℕ)). l ++ ys) (elements f (i + 1) (n - (i + 1)))) (ap (map view) step ∙ map_last view items x)
    ∙ joined (map view items) (view x) (elements f (i + 1) (n - (i + 1))) ∙ sym (ap (option_map (λ (ys : List (List ℕ)). map view items ++ ys)) (elements_more f i n (view x) lt e)) ∙ inv
  where
    joined : (xs : List (List ℕ)) (y : List ℕ) (o : Option (List (List ℕ))) → option_map (λ (ys : List (List ℕ)). (xs ++ (y ∷ [])) ++ ys) o ≡ option_map (λ (ys : List (List ℕ)). xs ++ ys) (option_map (λ (ys : List (List ℕ)). y ∷ ys) o)
    joined xs y None = refl
    joined xs y (Some ys) = ap Some (append_assoc xs (y ∷ []) ys)

-- one does not
pub texts_fail : (f : ℕ → Option (List ℕ)) (i n : ℕ) (xs : List (List ℕ)) (total : Option (List (List ℕ))) → i < n → f i ≡ None → option_map (λ (ys : List (List ℕ)). xs ++ ys) (elements f i (n - i)) ≡ total → IsSome total → ⊥
texts_fail f i n xs total lt e inv some = none (subst (λ (o : Option (List (List ℕ))). IsSome o) (sym inv ∙ ap (option_map (λ (ys : List (List ℕ)). xs ++ ys)) (elements_fail f i n lt e)) some)
  where
    none : IsSome nothing → ⊥
    none h = cc

-- all stand there
pub texts_end : (f : ℕ → Option (List ℕ)) (i n : ℕ) (xs : List (List ℕ)) (total : Option (List (List ℕ))) → n ≤ i → option_map (λ (ys : List (List ℕ)). xs ++ ys) (elements f i (n - i)) ≡ total → total ≡ Some xs
texts_end f i n xs total le inv = sym inv ∙ ap (option_map (λ (ys : List (List ℕ)). xs ++ ys)) (elements_end f i n le) ∙ ap Some (append-nil xs)

-- before the first
pub texts_none : (o : Option (List (List ℕ))) → option_map (λ (ys : List (List ℕ)). [] ++ ys) o ≡ o
texts_none None = refl
texts_none (Some ys) = refl

-- ---- kinds

head_names : (held : List (List ℕ)) (rows : ℕ) (names : Option (List (List ℕ))) → option_map (content_head held) (names >>= λ ns. Some (array_content rows ns)) ≡ (held_names held names >>= λ known. Some (record { kind = Array; exponent = 0; rows = rows; held = known }))
head_names held rows None = refl
head_names held rows (Some ns) = refl

-- what is kept of an array
pub array_is : (held : List (List ℕ)) (b : List ℕ) (p kind : ℕ) → kind ≡ 1 → option_map (content_head held) (content_at b p kind) ≡ array_head_at held b p
unfolding content_at array_head_at
array_is held b p kind e = rw e (rows_are (or_zero (number_field b p 0 4)))
  where
    names_are : (rows : ℕ) (v : Option _) → option_map (content_head held) ((v >>= names_in b) >>= λ ns. Some (array_content rows ns)) ≡ ((v >>= λ w. held_names held (names_in b w)) >>= λ known. Some (record { kind = Array; exponent = 0; rows = rows; held = known }))
    names_are rows None = refl
    names_are rows (Some w) = head_names held rows (names_in b w)

    rows_are : (r : Option ℕ) → option_map (content_head held) (r >>= λ rows. (or_empty 4 (vector_field b p 1 4) >>= names_in b) >>= λ ns. Some (array_content rows ns)) ≡ (r >>= λ rows. (or_empty 4 (vector_field b p 1 4) >>= λ w. held_names held (names_in b w)) >>= λ known. Some (record { kind = Array; exponent = 0; rows = rows; held = known }))
    rows_are None = refl
    rows_are (Some rows) = names_are rows (or_empty 4 (vector_field b p 1 4))

-- what is kept of a buffer
pub buffer_is : (held : List (List ℕ)) (b : List ℕ) (p kind : ℕ) → kind ≡ 2 → option_map (content_head held) (content_at b p kind) ≡ option_map (content_head held) (option_map buffer_content (or_zero (number_field b p 0 1)))
unfolding content_at
buffer_is held b p kind e = rw e refl

-- what is kept of a type
pub type_is : (held : List (List ℕ)) (b : List ℕ) (p kind : ℕ) → kind ≡ 3 → option_map (content_head held) (content_at b p kind) ≡ Some (record { kind = DType; exponent = 0; rows = 0; held = true })
unfolding content_at
type_is held b p kind e = rw e refl

-- no other kind
pub none_is : (held : List (List ℕ)) (b : List ℕ) (p kind : ℕ) → (kind ≡ 1 → ⊥) → (kind ≡ 2 → ⊥) → (kind ≡ 3 → ⊥) → option_map (content_head held) (content_at b p kind) ≡ None
unfolding content_at
none_is held b p kind one two three = rw (ne_eqb kind 1 one, ne_eqb kind 2 two, ne_eqb kind 3 three) refl

-- ---- the names of a header

no_content : (c : Content) → ◌≡◌ {A = Option Content} None (Some c) → ⊥
no_content c e = cc

some_type : (rows : ℕ) (names : List (List ℕ)) → Some type_content ≡ Some (array_content rows names) → ⊥
some_type rows names e = cc

some_buffer : (rows n : ℕ) (names : List (List ℕ)) → Some (buffer_content n) ≡ Some (array_content rows names) → ⊥
some_buffer rows n names e = cc

-- of the kinds, only an array has an array's content
array_only : (t u v : Bool) (array : Option Content) (exponent : Option ℕ) (rows : ℕ) (names : List (List ℕ)) → cond t array (cond u (option_map buffer_content exponent) (cond v (Some type_content) None)) ≡ Some (array_content rows names) → array ≡ Some (array_content rows names)
array_only true u v array exponent rows names e = e
array_only false true v array None rows names e = absurd (no_content (array_content rows names) e)
array_only false true v array (Some n) rows names e = absurd (some_buffer rows n names e)
array_only false false true array exponent rows names e = absurd (some_type rows names e)
array_only false false false array exponent rows names e = absurd (no_content (array_content rows names) e)

abbrev names_of_content : List (List ℕ) → Option Content → List (List ℕ)
names_of_content ns None = ns
names_of_content ns (Some (array_content rows names)) = names
names_of_content ns (Some (buffer_content exponent)) = ns
names_of_content ns (Some type_content) = ns

some_names : (o : Option (List (List ℕ))) (rows number : ℕ) (names : List (List ℕ)) → (o >>= λ ns. Some (array_content number ns)) ≡ Some (array_content rows names) → o ≡ Some names
some_names None rows number names e = absurd (no_content (array_content rows names) e)
some_names (Some ns) rows number names e = ap (λ o. Some (names_of_content ns o)) e

no_names : (names : List (List ℕ)) → ◌≡◌ {A = Option (List (List ℕ))} None (Some names) → ⊥
no_names names e = cc

within : (t : Bool) (o : Option (List (List ℕ))) (names : List (List ℕ)) → cond t o None ≡ Some names → o ≡ Some names
within true o names e = e
within false o names e = absurd (no_names names e)

vector_told : (b : List ℕ) (v : Option VectorShape) (rows number : ℕ) (names : List (List ℕ)) → ((v >>= names_in b) >>= λ ns. Some (array_content number ns)) ≡ Some (array_content rows names) → (option_map (vector_view b) v >>= texts_of) ≡ Some names
vector_told b None rows number names e = absurd (no_content (array_content rows names) e)
vector_told b (Some w) rows number names e = within (leb w.count 65536) (elements (text_element b w) 0 w.count) names (some_names (names_in b w) rows number names e)

rows_told : (b : List ℕ) (r : Option ℕ) (v : Option VectorShape) (rows : ℕ) (names : List (List ℕ)) → (r >>= λ number. (v >>= names_in b) >>= λ ns. Some (array_content number ns)) ≡ Some (array_content rows names) → (option_map (vector_view b) v >>= texts_of) ≡ Some names
rows_told b None v rows names e = absurd (no_content (array_content rows names) e)
rows_told b (Some number) v rows names e = vector_told b v rows number names e

told_at : (b : List ℕ) (p kind rows : ℕ) (names : List (List ℕ)) → content_at b p kind ≡ Some (array_content rows names) → (option_map (vector_view b) (or_empty 4 (vector_field b p 1 4)) >>= texts_of) ≡ Some names
unfolding content_at
told_at b p kind rows names e = rows_told b (or_zero (number_field b p 0 4)) (or_empty 4 (vector_field b p 1 4)) rows names (array_only (kind == 1) (kind == 2) (kind == 3) (or_zero (number_field b p 0 4) >>= λ number. (or_empty 4 (vector_field b p 1 4) >>= names_in b) >>= λ ns. Some (array_content number ns)) (or_zero (number_field b p 0 1)) rows names e)

abbrev content_in : Content → Option Header → Content
content_in c None = c
content_in c (Some h) = h.content

no_header : (h : Header) → ◌≡◌ {A = Option Header} None (Some h) → ⊥
no_header h e = cc

abbrev says : Content → ℕ → Header
says c n = record { content = c; body_size = n }

content_told : (o : Option Content) (n size : ℕ) (c : Content) → (o >>= λ x. Some (says x n)) ≡ Some (says c size) → o ≡ Some c
content_told None n size c e = absurd (no_header (says c size) e)
content_told (Some x) n size c e = ap (λ o. Some (content_in x o)) e

table_told : (b : List ℕ) (o : Option MessageTable) (rows : ℕ) (names : List (List ℕ)) (size : ℕ) → (o >>= λ m. content_at b m.inner m.kind >>= λ x. Some (says x m.body_size)) ≡ Some (says (array_content rows names) size) → ((o >>= λ m. option_map (vector_view b) (or_empty 4 (vector_field b m.inner 1 4))) >>= texts_of) ≡ Some names
table_told b None rows names size e = absurd (no_header (says (array_content rows names) size) e)
table_told b (Some m) rows names size e = told_at b m.inner m.kind rows names (content_told (content_at b m.inner m.kind) m.body_size size (array_content rows names) e)

-- the header of an array tells its names
pub told : (b : List ℕ) (rows : ℕ) (names : List (List ℕ)) (size : ℕ) → header_of b ≡ Some (record { content = array_content rows names; body_size = size }) → names_told b ≡ Some names
unfolding header_of names_vector_of
told b rows names size e = table_told b (message_table_of b) rows names size e

-- names that are told are the texts of the vector
pub told_vector : (b : List ℕ) (v : VectorView) → names_vector_of b ≡ Some v → names_told b ≡ texts_of v
told_vector b v e = ap (λ o. o >>= texts_of) e

pub texts_there : (b : List ℕ) (v : VectorView) → names_vector_of b ≡ Some v → IsSome (names_told b) → IsSome (texts_of v)
texts_there b v e some = subst (λ (o : Option (List (List ℕ))). IsSome o) (told_vector b v e) some

pub no_vector : (b : List ℕ) → names_vector_of b ≡ None → IsSome (names_told b) → ⊥
no_vector b e some = none (subst (λ (o : Option (List (List ℕ))). IsSome o) (ap (λ o. o >>= texts_of) e) some)
  where
    none : IsSome nothing → ⊥
    none h = cc

pub read_told : (b : List ℕ) (v : VectorView) (names texts : List (List ℕ)) → names_vector_of b ≡ Some v → texts_of v ≡ Some texts → names ≡ texts → names_told b ≡ Some names
read_told b v names texts e f same = told_vector b v e ∙ f ∙ sym (ap (λ (ns : List (List ℕ)). Some ns) same)
