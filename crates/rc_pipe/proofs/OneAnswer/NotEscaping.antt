-- The pass on scopes that don't escape has one result: its rules ask of a set only which names are in it.
use Rattle.std.proofs.Common.{◌≡◌, ◌∙◌, Bool, List, ap}
use Rattle.std.specs.Prelude.{◌&&◌, false, not, Ok, is_none, slice_get}
use Rattle.std.specs.List.{list_any}
use Rattle.std.specs.Option.{option_map_or}
use Rattle.rc_hir.specs.Model.{Environment, ReactiveScope}
use Rattle.rc_names.specs.Numbers.{DeclarationId, ScopeId, is_among}
use Rattle.rc_tree.specs.Model.{ReactiveBlock, ReactiveFunction}
use Rattle.rc_tree.specs.Rebuilt.{Rules, rebuilt_block}
use Rattle.rc_tree.specs.declared.fate.ScopeFate.{ScopeFate}
use Rattle.rc_escape.specs.declared.not_escaping.met.Met.{Met}
use Rattle.rc_escape.specs.Met.{nothing_met, with_dissolved_if}
use Rattle.rc_escape.specs.NotEscaping.{HasDecidedNotEscaping, in_place_of, not_escaping_rules}
use Rattle.rc_escape.specs.Outputs.{gives_way, has_output, is_dissolved, outputs_of}
use Rattle.rc_escape.proofs.OneRecord.{one_record}
use Rattle.rc_pipe.proofs.OneAnswer.MemoizedOnce.{same_names}
use Rattle.rc_pipe.proofs.OneAnswer.Unique.{one_end}

module _ (env : Environment) (set set1 : List DeclarationId)
    (same : (name : DeclarationId) → is_among set name ≡ is_among set1 name) where
  same_way : (scope : ReactiveScope) → gives_way env set scope ≡ gives_way env set1 scope
  same_way scope = ap (λ (among : DeclarationId → Bool). is_none scope.early_return_value
      && (has_output (outputs_of env scope) && not (list_any among (outputs_of env scope)))) (λ i. λ name. same name i)

  -- the same scope blocks give way
  pub same_dissolved : (number : ScopeId) → is_dissolved env set number ≡ is_dissolved env set1 number
  same_dissolved number =
      ap (λ (way : ReactiveScope → Bool). option_map_or way (slice_get env.scopes number.0) false)
      (λ i. λ scope. same_way scope i)

  -- the rules for the first set, with another test on scope blocks
  abbrev rules_by : (ScopeId → Bool) → Rules Met
  rules_by dissolves = record (not_escaping_rules env set) {
    scope = λ around block met. Ok (
      with_dissolved_if (dissolves block.scope) block.scope met,
      in_place_of (dissolves block.scope) block,
    );
  }

  same_rules : not_escaping_rules env set ≡ not_escaping_rules env set1
  same_rules = ap rules_by (λ i. λ number. same_dissolved number i)

module _ (env : Environment) (func : ReactiveFunction) (after after1 : ReactiveBlock) (log log1 : List ScopeFate)
    (is : HasDecidedNotEscaping env func after log) (is1 : HasDecidedNotEscaping env func after1 log1) where
  -- the sets by which the blocks were judged have the same names
  pub same_set : (name : DeclarationId) → is_among is.without.set name ≡ is_among is1.without.set name
  same_set =
      let a = is.without.memoized in
      let b = is1.without.memoized in
      same_names (one_record func env a.rec b.rec a.recorded b.recorded) a.memoized b.memoized

  pub one_body : after ≡ after1
  one_body =
      let a = is.without.rebuilt in
      let b = is1.without.rebuilt in
      let rules = same_rules env is.without.set is1.without.set same_set in
      (one_end a.left b.left after after1 a.rebuilt
      (ap (λ (r : Rules Met). rebuilt_block r func.body nothing_met) rules ∙ b.rebuilt)).1
