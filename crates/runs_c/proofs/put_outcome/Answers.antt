-- Each outcome's numbers are written by one call.
use Rattle.runs_c.proofs.put_outcome.Goals as goal

pub returns-in-Follows : goal.returns-in-Follows
returns-in-Follows c = rw c.in-Follows.is c.put_all.ensures

pub returns-in-Disagree : goal.returns-in-Disagree
returns-in-Disagree c = rw c.in-Disagree.is c.put_all-in-Disagree.ensures
