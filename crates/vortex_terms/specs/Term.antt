-- What a contract sees of a logical type: a term, and of a struct's fields: a list of names and
-- terms.
--     WholeKind      the eight kinds of whole numbers
--     Term, Fields   a type, and the fields of a struct in order
-- A flag of a term says whether a row may be null. Names, ids and metadata are lists of bytes.
use Rattle.std.specs.Prelude.{ℕ, ℤ, Bool, List, Option}

pub data WholeKind : Type 0 where
  unsigned_8 : WholeKind
  unsigned_16 : WholeKind
  unsigned_32 : WholeKind
  unsigned_64 : WholeKind
  signed_8 : WholeKind
  signed_16 : WholeKind
  signed_32 : WholeKind
  signed_64 : WholeKind

mutual
  pub data Term : Type 0 where
    -- only null
    null : Term
    boolean : Bool → Term
    primitive : WholeKind → Bool → Term
    -- precision and scale: a row is the number without its point
    decimal : ℕ → ℤ → Bool → Term
    utf8 : Bool → Term
    binary : Bool → Term
    structure : Fields → Bool → Term
    list : Term → Bool → Term
    -- an id, the storage and maybe metadata: a row is a row of the storage
    extension : List ℕ → Term → Option (List ℕ) → Term
    fixed_size_list : Term → ℕ → Bool → Term

  pub data Fields : Type 0 where
    no_fields : Fields
    field : List ℕ → Term → Fields → Fields
