use Rattle.std.proofs.Common.{get_or, ℕ, ◌<◌, ◌≡◌, ◌≤◌, vec_len}
use Rattle.bw_table.specs.Changes.{choice_of}
use Rattle.bw_table.specs.Tables.{header_by}
use Rattle.bw_table.proofs.choice.choose_all.Given as goal

-- the headers below k have what is chosen for them, and the others are as they were
abbrev pub invariant-loop-k : goal.invariant-loop-k
invariant-loop-k g l = record {
  count : vec_len l.headers ≡ vec_len l.fn.headers;
  done : (j : ℕ) (d : _) → j < l.k → get_or l.headers.items j d ≡ header_by (choice_of l.choices j) (get_or l.fn.headers.items j d);
  left : (j : ℕ) (d : _) → l.k ≤ j → get_or l.headers.items j d ≡ get_or l.fn.headers.items j d;
}
