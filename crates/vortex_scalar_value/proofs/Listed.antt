-- The values of a list, as a loop over the fields reads them.
use Rattle.std.proofs.Common.{◌≡◌, ℕ, false, eqb, List, [], ◌∷◌, ◌++◌, Option, Some, None, option_map, Result, Ok, Err, refl, sym, ap, ◌∙◌, append_assoc, inl, inr}
use Rattle.std.specs.Prelude.{filter, IfOk, IsErrAnd, IsOkUnless}
use Rattle.std.proofs.lemmas.Bool.{eq-eqb, ne_eqb}
use Rattle.std.proofs.lemmas.List.{append-nil}
use Rattle.vortex_prelude.specs.Chain.{◌>>=◌}
use Rattle.vortex_wire.specs.declared.error.WireError.{WireError}
use Rattle.vortex_wire.specs.declared.field.WireField.{WireField}
use Rattle.vortex_wire.specs.declared.field.WireValue.{WireValue}
use Rattle.vortex_wire.specs.declared.field.WireValue.TheVariants as wire
use Rattle.vortex_wire.specs.Field.{Bytes, Field, content_of, field_of, then_fields, fields_in, fields_of}
use Rattle.vortex_wire.specs.Inside.{bytes_in, each_bytes, bytes_fields}
use Rattle.vortex_scalar_value.specs.declared.error.ScalarError.{ScalarError}
use Rattle.vortex_scalar_value.specs.declared.error.ScalarError.TheVariants as error
use Rattle.vortex_scalar_value.specs.Standing.{Finds}
use Rattle.vortex_scalar_value.specs.Value.{ValueTerm, list_value, ValueTerms, no_values, value, value_list, values_from}
use Rattle.vortex_scalar_value.specs.Reading.{Reader, values_in, list_in}
use Rattle.vortex_scalar_value.specs.declared.schema.TheConstants.{LIST_VALUES}

-- the values in these fields
abbrev pub in_fields : Reader → List Field → Option ValueTerms
in_fields read fields = each_bytes (filter (λ f. eqb f.number LIST_VALUES) fields) >>= values_in read

-- the list of these values and of those found
abbrev pub since : List ValueTerm → ValueTerms → ValueTerm
since before vs = list_value (values_from (before ++ value_list vs))

-- the same, with those that are found in the fields of what is left
abbrev pub still : Reader → List ValueTerm → List ℕ → Option ValueTerm
still read before b = option_map (since before) (fields_of b >>= in_fields read)

from_list : (vs : ValueTerms) → values_from (value_list vs) ≡ vs
from_list no_values = refl
from_list (value v vs) = ap (value v) (from_list vs)

none_before : (o : Option ValueTerms) → option_map (since []) o ≡ (o >>= λ vs. Some (list_value vs))
none_before None = refl
none_before (Some vs) = ap (λ ws. Some (list_value ws)) (from_list vs)

regrouped : {A B C D : Type 0} (o : Option A) (f : A → Option B) (g : B → Option C) (h : C → Option D) → ((o >>= (λ a. f a >>= g)) >>= h) ≡ ((o >>= f) >>= λ b. g b >>= h)
regrouped None f g h = refl
regrouped (Some a) f g h = again (f a) g h
  where
    again : {B C D : Type 0} (o : Option B) (g : B → Option C) (h : C → Option D) → ((o >>= g) >>= h) ≡ (o >>= λ b. g b >>= h)
    again None g h = refl
    again (Some b) g h = refl

pub starts : (read : Reader) (body : List ℕ) → still read [] body ≡ list_in read body
unfolding list_in bytes_fields
starts read body =
    none_before (fields_of body >>= in_fields read)
    ∙ regrouped (fields_of body) (λ fields. each_bytes (filter (λ f. eqb f.number LIST_VALUES) fields)) (values_in read) (λ vs. Some (list_value vs))

-- ---- one field

past : (read : Reader) (f : Field) (fields : List Field) → eqb f.number LIST_VALUES ≡ false → in_fields read (f ∷ fields) ≡ in_fields read fields
past read f fields other = rw other refl

passed_over : (read : Reader) (before : List ValueTerm) (f : Field) (o : Option (List Field)) → (f.number ≡ LIST_VALUES → ⊥)
    → option_map (since before) (option_map (λ others. f ∷ others) o >>= in_fields read) ≡ option_map (since before) (o >>= in_fields read)
passed_over read before f None ne = refl
passed_over read before f (Some fields) ne = ap (option_map (since before)) (past read f fields (ne_eqb f.number LIST_VALUES ne))

-- a field of another number
pub goes_past : (read : Reader) (before : List ValueTerm) (f : Field) (old new : List ℕ) (all : Option ValueTerm) → (f.number ≡ LIST_VALUES → ⊥) → fields_of old ≡ option_map (λ others. f ∷ others) (fields_of new)
    → still read before old ≡ all → still read before new ≡ all
goes_past read before f old new all ne e so_far =
    sym (ap (λ o. option_map (since before) (o >>= in_fields read)) e ∙ passed_over read before f (fields_of new) ne) ∙ so_far

refused_field : (read : Reader) (f : Field) (fields : List Field) → f.number ≡ LIST_VALUES → bytes_in f.content ≡ None → in_fields read (f ∷ fields) ≡ None
unfolding each_bytes
refused_field read f fields same none = rw (eq-eqb f.number LIST_VALUES same) (rw none refl)

all_refused : (read : Reader) (before : List ValueTerm) (f : Field) (o : Option (List Field)) → f.number ≡ LIST_VALUES → bytes_in f.content ≡ None
    → option_map (since before) (option_map (λ others. f ∷ others) o >>= in_fields read) ≡ None
all_refused read before f None same none = refl
all_refused read before f (Some fields) same none = ap (option_map (since before)) (refused_field read f fields same none)

-- a field of the number that holds no bytes
pub refused : (read : Reader) (before : List ValueTerm) (f : Field) (old new : List ℕ) (all : Option ValueTerm) → f.number ≡ LIST_VALUES → bytes_in f.content ≡ None → fields_of old ≡ option_map (λ others. f ∷ others) (fields_of new)
    → still read before old ≡ all → all ≡ None
refused read before f old new all same none e so_far =
    sym so_far ∙ ap (λ o. option_map (since before) (o >>= in_fields read)) e ∙ all_refused read before f (fields_of new) same none

-- no field stands next
pub cut_off : (read : Reader) (before : List ValueTerm) (old : List ℕ) (all : Option ValueTerm) → fields_of old ≡ None → still read before old ≡ all → all ≡ None
cut_off read before old all e so_far = sym so_far ∙ ap (λ o. option_map (since before) (o >>= in_fields read)) e

-- a message that is one of no value
none_in : (read : Reader) (f : Field) (fields : List Field) (part : List ℕ) → f.number ≡ LIST_VALUES → f.content ≡ Bytes part → read part ≡ None → in_fields read (f ∷ fields) ≡ None
unfolding each_bytes values_in
none_in read f fields part same held none = rw (eq-eqb f.number LIST_VALUES same) (rw held (by (each_bytes (filter (λ f. eqb f.number LIST_VALUES) fields))))
  where
    by : (o : Option (List (List ℕ))) → (o >>= (λ others. Some (part ∷ others)) >>= values_in read) ≡ None
    by None = refl
    by (Some parts) = rw none refl

all_none : (read : Reader) (before : List ValueTerm) (f : Field) (o : Option (List Field)) (part : List ℕ) → f.number ≡ LIST_VALUES → f.content ≡ Bytes part → read part ≡ None
    → option_map (since before) (option_map (λ others. f ∷ others) o >>= in_fields read) ≡ None
all_none read before f None part same held none = refl
all_none read before f (Some fields) part same held none = ap (option_map (since before)) (none_in read f fields part same held none)

pub no_value : (read : Reader) (before : List ValueTerm) (f : Field) (old new part : List ℕ) (all : Option ValueTerm) → f.number ≡ LIST_VALUES → f.content ≡ Bytes part → fields_of old ≡ option_map (λ others. f ∷ others) (fields_of new)
    → read part ≡ None → still read before old ≡ all → all ≡ None
no_value read before f old new part all same held e none so_far =
    sym so_far ∙ ap (λ o. option_map (since before) (o >>= in_fields read)) e ∙ all_none read before f (fields_of new) part same held none

-- the message of a value
one_in : (read : Reader) (f : Field) (fields : List Field) (part : List ℕ) (v : ValueTerm) → f.number ≡ LIST_VALUES → f.content ≡ Bytes part → read part ≡ Some v → in_fields read (f ∷ fields) ≡ option_map (value v) (in_fields read fields)
unfolding each_bytes values_in
one_in read f fields part v same held one = rw (eq-eqb f.number LIST_VALUES same) (rw held (by (each_bytes (filter (λ f. eqb f.number LIST_VALUES) fields))))
  where
    others : (o : Option ValueTerms) → (o >>= λ others. Some (value v others)) ≡ option_map (value v) o
    others None = refl
    others (Some vs) = refl

    by : (o : Option (List (List ℕ))) → (o >>= (λ others. Some (part ∷ others)) >>= values_in read) ≡ option_map (value v) (o >>= values_in read)
    by None = refl
    by (Some parts) = rw one (others (values_in read parts))

moved : (before : List ValueTerm) (v : ValueTerm) (o : Option ValueTerms) → option_map (since before) (option_map (value v) o) ≡ option_map (since (before ++ v ∷ [])) o
moved before v None = refl
moved before v (Some vs) = ap (λ ws. Some (list_value (values_from ws))) (sym (append_assoc before (v ∷ []) (value_list vs)))

all_one : (read : Reader) (before : List ValueTerm) (f : Field) (o : Option (List Field)) (part : List ℕ) (v : ValueTerm) → f.number ≡ LIST_VALUES → f.content ≡ Bytes part → read part ≡ Some v
    → option_map (since before) (option_map (λ others. f ∷ others) o >>= in_fields read) ≡ option_map (since (before ++ v ∷ [])) (o >>= in_fields read)
all_one read before f None part v same held one = refl
all_one read before f (Some fields) part v same held one = ap (option_map (since before)) (one_in read f fields part v same held one) ∙ moved before v (in_fields read fields)

pub goes_on : (read : Reader) (before after : List ValueTerm) (f : Field) (old new part : List ℕ) (v : ValueTerm) (all : Option ValueTerm) → f.number ≡ LIST_VALUES → f.content ≡ Bytes part → fields_of old ≡ option_map (λ others. f ∷ others) (fields_of new)
    → read part ≡ Some v → after ≡ before ++ v ∷ [] → still read before old ≡ all → still read after new ≡ all
goes_on read before after f old new part v all same held e one pushed so_far =
    ap (λ vs. still read vs new) pushed
    ∙ sym (ap (λ o. option_map (since before) (o >>= in_fields read)) e ∙ all_one read before f (fields_of new) part v same held one) ∙ so_far

no_fields : fields_of [] ≡ Some []
unfolding fields_of fields_in
no_fields = refl

none_left : (read : Reader) (before : List ValueTerm) → still read before [] ≡ Some (list_value (values_from before))
unfolding each_bytes values_in
none_left read before = rw no_fields (ap (λ vs. Some (list_value (values_from vs))) (append-nil before))

-- no byte is left
pub ends : (read : Reader) (before : List ValueTerm) (old : List ℕ) (all : Option ValueTerm) → old ≡ [] → still read before old ≡ all → all ≡ Some (list_value (values_from before))
ends read before old all e so_far = sym so_far ∙ ap (still read before) e ∙ none_left read before

-- ---- what the reader of fields says

pub field_came : (old new : List ℕ) (answer : Result WireField WireError) (f : WireField) → fields_of old ≡ then_fields (Some answer) (fields_of new) → answer ≡ Ok f → fields_of old ≡ option_map (λ others. field_of f ∷ others) (fields_of new)
field_came old new answer f e is = e ∙ ap (λ (r : Result WireField WireError). then_fields (Some r) (fields_of new)) is

pub fault_came : (old new : List ℕ) (answer : Result WireField WireError) (fault : WireError) → fields_of old ≡ then_fields (Some answer) (fields_of new) → answer ≡ Err fault → fields_of old ≡ None
fault_came old new answer fault e is = e ∙ ap (λ (r : Result WireField WireError). then_fields (Some r) (fields_of new)) is

pub no_bytes : (held : WireValue) → ((bytes : _) → held ≡ wire.Bytes bytes → ⊥) → bytes_in (content_of held) ≡ None
no_bytes (wire.Varint n) h = refl
no_bytes (wire.Eight n) h = refl
no_bytes (wire.Bytes bytes) h = absurd (h bytes refl)
no_bytes (wire.Four n) h = refl

-- ---- answers

-- the answer of a part that was refused
pub list_refused : (r : Result ValueTerm ScalarError) (e : ScalarError) (part all : Option ValueTerm) → IsErrAnd r (λ y. y ≡ e) → Finds (λ v. v) (Err e) part → (part ≡ None → all ≡ None) → Finds (λ v. v) r all
list_refused (Ok v) e part all is found none = absurd is
list_refused (Err y) e part all is (inl memory) none = inl (is ∙ memory)
list_refused (Err y) e part all is (inr refused) none = inr (is ∙ refused.0, none refused.1)

-- the answer at the end
pub listed : (r : Result ValueTerm ScalarError) (before : List ValueTerm) (all : Option ValueTerm) → all ≡ Some (list_value (values_from before)) → IfOk r (λ v. v ≡ list_value (values_from before)) → IsOkUnless r error.OutOfMemory → Finds (λ v. v) r all
listed (Ok v) before all e is memory = e ∙ ap Some (sym is)
listed (Err e) before all found is memory = inl memory
