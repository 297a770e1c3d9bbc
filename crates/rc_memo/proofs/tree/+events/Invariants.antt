use Rattle.std.proofs.Common.{drop}
use Rattle.rc_names.specs.Numbers.{EvaluationOrder}
use Rattle.rc_tree.specs.Collected.{collected_cases, collected_list}
use Rattle.rc_memo.specs.TreeEvents.{events_of_parts}
use Rattle.rc_memo.specs.declared.recording.Recording.{Recording}
use Rattle.rc_memo.specs.inside.Recording.{Tells}
use Rattle.rc_memo.proofs.tree.+events.Given as goal

-- once the events still to come are told, all are
abbrev pub invariant-add_statements-loop-statement : goal.invariant-add_statements-loop-statement
invariant-add_statements-loop-statement l = (new : Recording)
    → Tells l.reader.env.now (collected_list (events_of_parts l.reader.env.now) (drop l.statement-index l.all) l.around)
    l.recording new
    → Tells l.reader.env.now (collected_list (events_of_parts l.reader.env.now) l.all l.around) l.fn.recording new

abbrev pub invariant-add_cases-loop-case : goal.invariant-add_cases-loop-case
invariant-add_cases-loop-case l = (id : EvaluationOrder) (new : Recording)
    → Tells l.reader.env.now
    (collected_cases (events_of_parts l.reader.env.now) id (drop l.case-index l.cases) l.around) l.recording new
    → Tells l.reader.env.now (collected_cases (events_of_parts l.reader.env.now) id l.cases l.around) l.fn.recording new
