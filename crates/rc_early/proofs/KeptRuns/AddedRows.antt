-- What early returns put into a list, and the runs that stay: rows without an id have no event, a `Return` may follow
-- such a row, and a list may be under a label that catches nothing.
use Rattle.std.proofs.Common.{◌≡◌, List, [], ◌∷◌, Option, None, Some, true, false, refl, sym, subst}
use Rattle.std.specs.Prelude.{codes}
use Rattle.rc_names.specs.Numbers.{EvaluationOrder, to_id}
use Rattle.rc_names.specs.declared.span.Span.{Span}
use Rattle.rc_hir.specs.Model.{Effect, Environment, InstructionKind, Place, ReactiveScopeEarlyReturn}
use Rattle.rc_hir.specs.declared.instruction.InstructionValue.TheVariants as kinds
use Rattle.rc_hir.specs.declared.instruction.NonLocalBinding.TheVariants.{Global}
use Rattle.rc_hir.specs.declared.instruction.PrimitiveValue.TheVariants as primitives
use Rattle.rc_hir.specs.declared.pattern.InstructionKind.TheVariants.{Let, Reassign}
use Rattle.rc_hir.specs.declared.pattern.PropertyLiteral.TheVariants as property
use Rattle.rc_hir.specs.declared.place.Effect.TheVariants.{Capture, ConditionallyMutate}
use Rattle.rc_hir.specs.declared.place.PlaceOrSpread.TheVariants as arguments
use Rattle.rc_tree.specs.Model.{ReactiveLabel}
use Rattle.rc_tree.specs.declared.kind.ReactiveTerminalTargetKind.TheVariants.{Labeled}
use Rattle.rc_runs.specs.Event.{Event}
use Rattle.rc_runs.specs.PlainTree.{Value, Base, Statements, Cons, RowStatement, Break, Return}
use Rattle.rc_runs.specs.PlainTree.{Label}
use Rattle.rc_runs.specs.Returning.{is_early_label, returning, returning_after, returning_statement, returning_terminal}
use Rattle.rc_runs.specs.TreeOf.{block_of, statements_of}
use Rattle.rc_runs.specs.Completion.{Completion, Normal}
use Rattle.rc_runs.specs.ValueRun.{unset_row, set_row}
use Rattle.rc_runs.specs.BodyRun.{RunsList, RunsAfter, and_then, goes_on, leaves_list, returned, row, stopped}
use Rattle.rc_runs.proofs.KeepsRunsLemmas.{CatchesNothing, KeepsRuns, SameRuns, TerminalKeepsRuns, flat-keeps_runs}
use Rattle.rc_runs.proofs.KeepsRunsLemmas.{keeps_runs-flat, statement-keeps_runs}
use Rattle.rc_runs.proofs.PlainLists.{labeled}
use Rattle.rc_early.specs.Statements as trees
use Rattle.rc_early.specs.Statements.{temporary}

-- a list after a row without an id
abbrev pub after_row : Option Place → Value → Option Span → Statements → Statements
after_row target value span rest = Cons (RowStatement (to_id 0) target value span) rest

-- a store of a place to the variable
abbrev pub store : InstructionKind → Effect → ReactiveScopeEarlyReturn → Option Span → Place → Value
store kind effect entry span from = Base (kinds.StoreLocal (record {
  kind = kind;
  place = record { identifier = entry.value; effect = effect; reactive = true; span = span };
}) from span)

-- the label of an early return
abbrev pub label_of : ReactiveScopeEarlyReturn → Option ReactiveLabel
label_of entry = Some (record { id = entry.label; implicit = false })

-- the statements in the place of a `Return`, and those in the place of a scope block's own
abbrev pub stored_return : ReactiveScopeEarlyReturn → Place → Statements
stored_return entry place = after_row None (store Reassign Capture entry place.span place) place.span
    (labeled (Break entry.label Labeled (to_id 0)) None)

module _ (entry : ReactiveScopeEarlyReturn) where
  abbrev pub after_sentinel : Statements → Statements
  after_sentinel body =
      after_row (Some (temporary entry.value 2)) (Base (kinds.LoadGlobal (Global (codes "Symbol")) entry.span))
      entry.span
      (after_row (Some (temporary entry.value 3)) (Base (kinds.PropertyLoad (temporary entry.value 2)
      (property.String (codes "for")) entry.span)) entry.span
      (after_row (Some (temporary entry.value 4)) (Base (kinds.Primitive
      (primitives.String (codes "react.early_return_sentinel")) entry.span)) entry.span
      (after_row (Some (temporary entry.value 1)) (Base (kinds.MethodCall (temporary entry.value 2)
      (temporary entry.value 3) (arguments.Place (temporary entry.value 4) ∷ []) entry.span)) entry.span
      (after_row None (store Let ConditionallyMutate entry entry.span (temporary entry.value 1)) entry.span
      (labeled (Label body (to_id 0)) (label_of entry))))))

  -- they are the trees that the pass puts there
  pub tree_of-stored_return : (place : Place)
      → statements_of (stored_return entry place) ≡ trees.stored_return entry place
  tree_of-stored_return place = refl

  pub tree_of-after_sentinel : (body : Statements)
      → statements_of (after_sentinel body) ≡ trees.after_sentinel entry (block_of body)
  tree_of-after_sentinel body = refl

  module _ (env : Environment) where
    -- early returns in them: in the list under the label, and at the jump, if its label is that of an early return
    pub returning-after_sentinel : (stored : Option Place) (body : Statements)
        → returning_after env stored (after_sentinel body) ≡ after_sentinel (returning env body)
    unfolding returning_after returning_statement returning_terminal
    returning-after_sentinel stored body = refl

    pub returning-stored_return : (stored : Option Place) (place : Place) → is_early_label env entry.label ≡ true
        → returning_after env stored (stored_return entry place)
        ≡ after_row None (store Reassign Capture entry place.span place) place.span
        (labeled (Return place (to_id 0)) None)
    unfolding returning_after returning_statement returning_terminal
    returning-stored_return stored place is = rw is refl

module _ (env : Environment) where
  -- lists with the runs of each other, one after the other
  pub same_through : (a b c : Statements) → SameRuns env a b → SameRuns env b c → SameRuns env a c
  same_through a b c ab bc = (
    λ events outcome r. bc.0 events outcome (ab.0 events outcome r),
    λ events outcome r. ab.1 events outcome (bc.1 events outcome r),
  )

  -- the row has no event, and what follows it runs
  row_added : (target : Option Place) (value : Value) (span : Option Span) (rest : Statements)
      → SameRuns env rest (after_row target value span rest)
  row_added target value span rest = (forth, back)
    where
      forth : KeepsRuns env rest (after_row target value span rest)
      forth events outcome r = and_then (row (unset_row refl) refl) (goes_on r) refl

      past : {first : Completion} {second : List Event} {last : Completion} → first ≡ Normal
          → RunsAfter env first rest second last → RunsList env rest second last
      past e (goes_on h) = h
      past e (leaves_list l) = absurd (let bad : ⊥ = cc in bad)

      back : KeepsRuns env (after_row target value span rest) rest
      back events outcome stopped = stopped
      back events outcome (and_then (row (unset_row e) q) k w) =
          subst (λ l. RunsList env rest l outcome) (sym w) (past q k)
      back events outcome (and_then (row (set_row e r) q) k w) = absurd (let bad : ⊥ = cc in bad)

  one_more : (statements rest : Statements) (target : Option Place) (value : Value) (span : Option Span)
      → SameRuns env statements rest → SameRuns env statements (after_row target value span rest)
  one_more statements rest target value span same =
      same_through statements rest (after_row target value span rest) same (row_added target value span rest)

  returns_alike : (place : Place) (id id' : EvaluationOrder) (label label' : Option ReactiveLabel)
      → KeepsRuns env (labeled (Return place id) label) (labeled (Return place id') label')
  returns_alike place id id' label label' = statement-keeps_runs env _ _ inside
    where
      inside : TerminalKeepsRuns env (Return place id) label (Return place id') label'
      inside events outcome returned = returned

  -- a `Return` after a row
  pub return_runs : (place : Place) (id : EvaluationOrder) (label : Option ReactiveLabel) (value : Value)
      (span : Option Span) → SameRuns env (labeled (Return place id) label)
      (after_row None value span (labeled (Return place (to_id 0)) None))
  return_runs place id label value span = one_more _ _ None value span
      (returns_alike place id (to_id 0) label None, returns_alike place (to_id 0) id None label)

  -- a list under a label that it never names, after rows
  pub sentinel_runs : (entry : ReactiveScopeEarlyReturn) (body to : Statements) → SameRuns env body to
      → CatchesNothing env (label_of entry) body → SameRuns env body (after_sentinel entry to)
  sentinel_runs entry body to same catches =
      one_more body _ _ _ _ (one_more body _ _ _ _ (one_more body _ _ _ _ (one_more body _ _ _ _
      (one_more body _ _ _ _ (
        keeps_runs-flat env (to_id 0) (label_of entry) body to same.0 catches',
        flat-keeps_runs env (to_id 0) (label_of entry) to body same.1 catches',
      )))))
    where
      catches' : CatchesNothing env (label_of entry) to
      catches' events outcome r = catches events outcome (same.1 events outcome r)
