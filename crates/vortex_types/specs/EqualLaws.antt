-- Equality is an equivalence, and equal types feed a hasher alike.
use Rattle.std.specs.Cmp.{IsEquivalence, decided, on_equiv}
use Rattle.std.specs.Hash.{Alike, same_Alike, on_Alike}
use Rattle.std.specs.Ordering.{on}
use Rattle.vortex_terms.specs.Equality.{term_eq, fields_eq}
use Rattle.vortex_terms.specs.EqualityLaws.{term_eq-Decides, fields_eq-Decides}
use Rattle.vortex_types.specs.DTypes.{term_of}
use Rattle.vortex_types.specs.ExtTerm.{ext_type}
use Rattle.vortex_types.specs.HashInput.{term_writes, struct_writes}

pub term_equivalence : IsEquivalence term_eq
term_equivalence = decided term_eq term_eq-Decides

pub fields_equivalence : IsEquivalence fields_eq
fields_equivalence = decided fields_eq fields_eq-Decides

pub dtype_equivalence : IsEquivalence (on term_of term_eq)
dtype_equivalence = on_equiv term_of term_equivalence

pub ext_equivalence : IsEquivalence (on ext_type term_eq)
ext_equivalence = on_equiv ext_type term_equivalence

pub term_alike : Alike term_eq term_writes
term_alike = same_Alike term_writes term_eq-Decides

pub fields_alike : Alike fields_eq struct_writes
fields_alike = same_Alike struct_writes fields_eq-Decides

pub dtype_alike : Alike (on term_of term_eq) (λ t. term_writes (term_of t))
dtype_alike = on_Alike term_of term_alike

pub ext_alike : Alike (on ext_type term_eq) (λ e. term_writes (ext_type e))
ext_alike = on_Alike ext_type term_alike
