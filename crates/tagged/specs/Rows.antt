-- The code's table of labels, beside the rules'.
-- Assumes nothing.
use Rattle.std.specs.Prelude.{ℕ, ◌≡◌, ◌∷◌}
use Rattle.tag_rules.specs.Tags.{plain, ten, calendar_date, postal, label_at, span_at, span_size, form_at}
use Rattle.tagged.specs.declared.form.Form.{Form}
use Rattle.tagged.specs.declared.form.Form.TheVariants.{Plain, Ten, CalendarDate, Postal}
use Rattle.tagged.specs.declared.table.Row.{Row}

-- the number that the rules have for a form
abbrev pub number : Form → ℕ
number Plain = plain
number Ten = ten
number CalendarDate = calendar_date
number Postal = postal

-- what the rules say of label k
pub record IsRow (k : ℕ) (row : Row) : Type 0 where
  pub label : row.label ≡ 124 ∷ label_at k
  pub at : row.at ≡ span_at k
  pub size : row.size ≡ span_size k
  pub form : number row.form ≡ form_at k
