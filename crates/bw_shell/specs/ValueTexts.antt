-- How a value is written.
use Rattle.std.specs.Prelude.{List, ℕ}
use Rattle.bw_model.specs.ReplyText.{cell_text}
use Rattle.bw_model.specs.Select.{shown}
use Rattle.bw_model.specs.Store.{Value}

-- the text of the cell that shows it
abbrev pub value_text : Value → List ℕ
value_text value = cell_text (shown value)
