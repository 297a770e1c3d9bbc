-- Which row of a sequence ends an optional's test, said of the program's own rows and values.
use Rattle.std.specs.Prelude.{Bool, true, false, ◌&&◌, List, [], Option, Some}
use Rattle.rc_hir.specs.Model.{Environment, Place}
use Rattle.rc_tree.specs.Model.{ReactiveInstruction, ReactiveValue}
use Rattle.rc_tree.specs.declared.value.ReactiveValue.{ReactiveValue-F, out-ReactiveValue}
use Rattle.rc_tree.specs.declared.value.ReactiveValue.TheOpen as layers
use Rattle.rc_runs.specs.AnsweredTest.{answers_test}
use Rattle.rc_runs.specs.PlainTree.{Base}

-- the value only loads that place
abbrev pub answers : Environment → Place → ReactiveValue-F ReactiveValue ReactiveInstruction → Bool
answers env place (layers.Instruction value) = answers_test env place (Base value)
answers env place value = false

-- the target is that place, if there is one
abbrev pub answers_target : Environment → Option Place → ReactiveValue-F ReactiveValue ReactiveInstruction → Bool
answers_target env (Some place) value = answers env place value
answers_target env target value = false

-- the value is an optional
abbrev pub is_optional : ReactiveValue-F ReactiveValue ReactiveInstruction → Bool
is_optional (layers.OptionalExpression value optional) = true
is_optional value = false

-- no row is left
abbrev pub is_last : List ReactiveInstruction → Bool
is_last [] = true
is_last rows = false

-- the row ends an optional's test with that value after it, if it is the last one of such a test
abbrev pub ends_test : Environment → Bool → Bool → ReactiveInstruction → ReactiveValue → Bool
ends_test env is_test last row value = is_test
    && (last && (is_optional (out-ReactiveValue row.value) && answers_target env row.lvalue (out-ReactiveValue value)))
