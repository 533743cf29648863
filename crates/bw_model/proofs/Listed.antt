-- What TABLES shows, from the cells of its lines.
use Rattle.std.proofs.Common.{◌≡◌, ◌∙◌, ◌*◌, List, [], ◌∷◌, length, map, refl, sym, ap, arith}
use Rattle.bw_sql.specs.Rows.{joined}
use Rattle.bw_model.specs.Answers.{AreWholeLines, Shown, lines_of}
use Rattle.bw_model.specs.Listing.{listing, table_line}
use Rattle.bw_model.specs.Store.{Store}
use Rattle.bw_model.specs.declared.answer.Cell.{Cell}
use Rattle.bw_model.specs.declared.answer.Heading.{Heading}
use Rattle.bw_model.specs.declared.answer.Heading.TheVariants.{Columns, Rows, Table}
use Rattle.bw_model.proofs.Lines.{All-map, length-joined_map, lines_of-joined, whole_lines}

module _ (store : Store) (headings : List Heading) (cells : List Cell)
    (headed : headings ≡ Table ∷ Columns ∷ Rows ∷ [])
    (shows : cells ≡ joined (map table_line store)) where
  width : length headings ≡ 3
  width = ap length headed

  pub whole_listing : AreWholeLines (length headings) cells
  whole_listing =
      whole_lines (length headings) (length store) cells (omega (arith, width))
      (ap length shows ∙ length-joined_map table_line 3 store (λ _. refl) ∙ ap (λ w. length store * w) (sym width))

  pub listing_is : (answer : Shown) → answer.headings ≡ headings → answer.lines ≡ lines_of (length headings) cells → answer ≡ listing store
  listing_is answer heads lines =
      let whole = lines ∙ ap (λ h. lines_of (length h) cells) headed ∙ ap (lines_of 3) shows ∙ lines_of-joined 3 (map table_line store) (omega arith) (All-map table_line 3 store (λ _. refl)) in
      λ j. record { headings = (heads ∙ headed) j; lines = whole j }
