-- `reading::judging::Desk::judge_line`: refused, or accepted. The two results are searched for, so that an edit that does something
-- else in either case is refused at what it does there.
use Rattle.std.proofs.Common.{rules}
use Rattle.reading.proofs.Accepting.{refused_judged, acceptable, accepted_judged}
use Rattle.reading.proofs.judging.Desk.judge_line.Goals as goal

pub returns-in-Err : goal.returns-in-Err
returns-in-Err c = (search (refused_judged, c.in-Err.ensures), search rules, search rules)

pub accept-requires : goal.accept-requires
accept-requires c = acceptable _ _ c.requires _ c.in-Ok.ensures

pub returns-in-Ok : goal.returns-in-Ok
returns-in-Ok c = (search (accepted_judged, c.in-Ok.ensures), search rules, search rules)
