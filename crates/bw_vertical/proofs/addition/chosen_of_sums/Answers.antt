use Rattle.bw_vertical.proofs.addition.chosen_of_sums.Goals as goal

pub returns : goal.returns
returns c j h = rw (c.chosen.ensures j h, c.both.ensures j h, c.without.ensures j h)
