use Rattle.bw_column.proofs.column.Column.room_to_copy.Goals as goal

pub returns-in_ok-step-in-Offset-clause-prepared : goal.returns-in_ok-step-in-Offset-clause-prepared
returns-in_ok-step-in-Offset-clause-prepared c = record { masked = c.requires.masked; fits = c.in_ok-step-in-Offset.ensures.kind; ready = c.in_ok-step-in-Offset.ensures.prepared }

pub returns-in_ok-step-in-Dictionary-clause-prepared : goal.returns-in_ok-step-in-Dictionary-clause-prepared
returns-in_ok-step-in-Dictionary-clause-prepared c = record { masked = c.requires.masked; fits = c.in_ok-step-in-Dictionary.ensures.moves; ready = c.in_ok-step-in-Dictionary.ensures.prepared }
