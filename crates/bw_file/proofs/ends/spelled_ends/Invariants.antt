use Rattle.std.proofs.Common.{fold, length, take, true, ◌*◌, ◌+◌, ◌≡◌}
use Rattle.std.specs.Int.{int_max, int_min}
use Rattle.bw_cells.specs.Known.{known}
use Rattle.bw_file.specs.Reading.{AreSpelled, cells_in}
use Rattle.bw_file.proofs.ColumnEnds.{bottom, top}
use Rattle.bw_file.proofs.ends.spelled_ends.Given as goal

abbrev pub invariant-eights : goal.invariant-eights
invariant-eights l = record {
  long_least : length l.least ≡ 8;
  long_greatest : length l.greatest ≡ 8;
  yes : l.agree ≡ true → AreSpelled (8 * l.q) l.present l.words;
  told : AreSpelled l.rows l.present l.words → l.agree ≡ true;
  least : l.agree ≡ true → fold int_min top l.least ≡ fold int_min top (known (take (8 * l.q) (cells_in l.rows l.present l.words)));
  greatest : l.agree ≡ true → fold int_max bottom l.greatest ≡ fold int_max bottom (known (take (8 * l.q) (cells_in l.rows l.present l.words)));
}

abbrev pub invariant-bits : goal.invariant-bits
invariant-bits l = record {
  long_least : length l.least ≡ 8;
  long_greatest : length l.greatest ≡ 8;
  yes : l.agree ≡ true → AreSpelled (8 * l.q + l.j) l.present l.words;
  told : AreSpelled l.rows l.present l.words → l.agree ≡ true;
  least : l.agree ≡ true → fold int_min top l.least ≡ fold int_min top (known (take (8 * l.q + l.j) (cells_in l.rows l.present l.words)));
  greatest : l.agree ≡ true → fold int_max bottom l.greatest ≡ fold int_max bottom (known (take (8 * l.q + l.j) (cells_in l.rows l.present l.words)));
}

abbrev pub invariant-rest : goal.invariant-rest
invariant-rest l = record {
  long_least : length l.least ≡ 8;
  long_greatest : length l.greatest ≡ 8;
  yes : l.agree ≡ true → AreSpelled l.i l.present l.words;
  told : AreSpelled l.rows l.present l.words → l.agree ≡ true;
  least : l.agree ≡ true → fold int_min top l.least ≡ fold int_min top (known (take l.i (cells_in l.rows l.present l.words)));
  greatest : l.agree ≡ true → fold int_max bottom l.greatest ≡ fold int_max bottom (known (take l.i (cells_in l.rows l.present l.words)));
}
