-- How a row and a step of a path are stored, so that a struct's model may be one or hold lists of
-- them.
--     coded_row, coded_rows, coded_path_part      the codes
use Rattle.std.specs.Prelude.{◌≡◌, refl}
use Rattle.std.specs.Coded.{Coded, coded_ℕ, coded_ℤ, coded_bool, coded_list}
use Rattle.std.proofs.Common.{ap, arith}
use base.Stored.{Gv, gnil, gnum, gcons, num}
use Rattle.vortex_terms.specs.Row.{Row, null_row, truth_row, whole_row, bytes_row, list_row, Rows, no_rows, row}
use Rattle.vortex_terms.specs.Path.{PathPart, by_name, element}
use Rattle.vortex_terms.specs.TermCode.{head, tail}

abbrev mutual
  pub row_code : Row → Gv
  row_code null_row = gcons (gnum 0) gnil
  row_code (truth_row b) = gcons (gnum 1) (coded_bool.code b)
  row_code (whole_row z) = gcons (gnum 2) (coded_ℤ.code z)
  row_code (bytes_row bs) = gcons (gnum 3) ((coded_list coded_ℕ).code bs)
  row_code (list_row rs) = gcons (gnum 4) (rows_code rs)

  pub rows_code : Rows → Gv
  rows_code no_rows = gnil
  rows_code (row r rs) = gcons (row_code r) (rows_code rs)

mutual
  pub row_code-inj : (r s : Row) → row_code r ≡ row_code s → r ≡ s
  row_code-inj null_row null_row e = refl
  row_code-inj (truth_row a) (truth_row b) e = λ i. truth_row (coded_bool.inj a b (ap tail e) i)
  row_code-inj (whole_row a) (whole_row b) e = λ i. whole_row (coded_ℤ.inj a b (ap tail e) i)
  row_code-inj (bytes_row a) (bytes_row b) e =
      λ i. bytes_row ((coded_list coded_ℕ).inj a b (ap tail e) i)
  row_code-inj (list_row rs) (list_row ss) e = λ i. list_row (rows_code-inj rs ss (ap tail e) i)
  row_code-inj _ _ e = absurd (omega (arith, ap (λ g. num (head g)) e))

  pub rows_code-inj : (rs ss : Rows) → rows_code rs ≡ rows_code ss → rs ≡ ss
  rows_code-inj no_rows no_rows e = refl
  rows_code-inj (row r rs) (row s ss) e =
      λ i. row (row_code-inj r s (ap head e) i) (rows_code-inj rs ss (ap tail e) i)
  rows_code-inj _ _ e = absurd (cc)

abbrev pub coded_row : Coded Row
coded_row = record { code = row_code; inj = row_code-inj }

abbrev pub coded_rows : Coded Rows
coded_rows = record { code = rows_code; inj = rows_code-inj }

abbrev pub path_part_code : PathPart → Gv
path_part_code (by_name x) = gcons (gnum 0) ((coded_list coded_ℕ).code x)
path_part_code element = gnil

pub path_part_code-inj : (a b : PathPart) → path_part_code a ≡ path_part_code b → a ≡ b
path_part_code-inj (by_name x) (by_name y) e =
    λ i. by_name ((coded_list coded_ℕ).inj x y (ap tail e) i)
path_part_code-inj element element e = refl
path_part_code-inj _ _ e = absurd (cc)

abbrev pub coded_path_part : Coded PathPart
coded_path_part = record { code = path_part_code; inj = path_part_code-inj }
