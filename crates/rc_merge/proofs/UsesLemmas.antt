-- The walk that finds last uses finds those of the tree's visits.
use Rattle.std.proofs.Common.{◌≡◌, ◌∙◌, Bool, true, false, List, [], ◌∷◌, ◌++◌, map, Option, None, Some, Result, Ok, Err}
use Rattle.std.proofs.Common.{option_map, refl, sym, ap}
use Rattle.std.specs.Prelude.{if◌then◌else◌}
use Rattle.rc_hir.specs.Environment.{declaration_of}
use Rattle.rc_hir.specs.Operands.{operands}
use Rattle.rc_hir.specs.Model.{Environment, Fault, InstructionValue, Place}
use Rattle.rc_names.specs.Numbers.{DeclarationId, EvaluationOrder, ScopeId, same_id}
use Rattle.rc_tree.proofs.ReadFollowed.{FollowedParts, block_followed}
use Rattle.rc_tree.proofs.ReadFollowedValues.{FollowedInTurn, FollowedValues, rows_followed, values_followed_if}
use Rattle.rc_tree.proofs.StepLemmas.{Ok-injective}
use Rattle.rc_tree.specs.Joining.{all_of, if_there}
use Rattle.rc_tree.specs.Step.{Walk, bind, next_to, each, perhaps}
use Rattle.rc_tree.specs.Read.{read_block}
use Rattle.rc_tree.specs.Read.Values.{inside_base}
use Rattle.rc_tree.specs.ReadSteps.{ReadSteps, targets_of}
use Rattle.rc_tree.specs.Model.{ReactiveBlock}
use Rattle.rc_tree.specs.Visits.{Visit, Visits, of_operands, operand_visit, visits_joining, visits_of}
use Rattle.rc_tree.specs.Visits.{visits_of_parts, visits_of_values}
use Rattle.rc_merge.proofs.LaterLemmas.{later_grouped}
use Rattle.rc_merge.specs.LastUses.{LastUses, last_uses_in, last_uses_of, later_of}
use Rattle.rc_merge.specs.inside.LastUsesMet.{later_if, use_steps, with_use}

module _ (env : Environment) where
  abbrev hooks : ReadSteps LastUses
  hooks = use_steps env

  -- what visits leave of last uses, or the fault of one that can't be read
  abbrev used : List Visit → LastUses → Result (Unit {0} × LastUses) Fault
  used [] uses = Ok (tt, uses)
  used (Ok operand ∷ visits) uses = used visits (with_use env operand.id operand.place uses)
  used (Err fault ∷ visits) uses = Err fault

  used-append : (xs ys : List Visit) (uses : LastUses) → used (xs ++ ys) uses ≡ bind (used xs uses) (λ a. used ys a.1)
  used-append [] ys uses = refl
  used-append (Ok operand ∷ xs) ys uses = used-append xs ys (with_use env operand.id operand.place uses)
  used-append (Err fault ∷ xs) ys uses = refl

  abbrev Follows : Walk LastUses → Visits → Type 0
  Follows walk visits = (around : List ScopeId) (uses : LastUses) → walk uses ≡ used (visits around) uses

  none : Follows (λ s. Ok (tt, s)) visits_joining.nothing
  none around uses = refl

  next : (first second : Walk LastUses) (visits others : Visits) → Follows first visits → Follows second others
      → Follows (next_to first second) (visits_joining.both visits others)
  next first second visits others h k around uses =
      ap (λ r. bind r (λ a. second a.1)) (h around uses)
      ∙ by (used (visits around) uses)
      ∙ sym (used-append (visits around) (others around) uses)
    where
      by : (r : Result (Unit {0} × LastUses) Fault) → bind r (λ a. second a.1) ≡ bind r (λ a. used (others around) a.1)
      by (Ok a) = k around a.1
      by (Err fault) = refl

  again : (r : Result (Unit {0} × LastUses) Fault) → bind {B = Unit {0} × LastUses} r (λ a. Ok (tt, a.1)) ≡ r
  again (Ok a) = refl
  again (Err fault) = refl

  -- a part whose enter and leave hooks do nothing
  inner : (walk : Walk LastUses) (visits : Visits) → Follows walk visits
      → Follows (λ s. bind (walk s) (λ r. Ok (tt, r.1))) visits
  inner walk visits h around uses = again (walk uses) ∙ h around uses

  places : (id : EvaluationOrder) (ps : List Place) → Follows (each (hooks.visit_place id) ps)
      (all_of visits_joining (map (operand_visit id) ps))
  places id [] around uses = refl
  places id (p ∷ ps) around uses = places id ps around (with_use env id p uses)

  place_if : (id : EvaluationOrder) (p : Option Place) → Follows (perhaps (hooks.visit_place id) p)
      (if_there visits_joining (option_map (operand_visit id) p))
  place_if id None around uses = refl
  place_if id (Some p) around uses = refl

  base : (id : EvaluationOrder) (x : InstructionValue) → Follows (inside_base hooks env.functions x id)
      (of_operands id (operands env.functions x))
  base id x around uses = by (operands env.functions x)
    where
      by : (r : Result (List Place) Fault) → bind r (λ ps. each (hooks.visit_place id) ps uses)
          ≡ used (of_operands id r around) uses
      by (Ok ps) = places id ps around uses
      by (Err fault) = refl

  quiet_target : (id : EvaluationOrder) (target : Option Place) (s : LastUses)
      → perhaps (hooks.visit_lvalue id) target s ≡ Ok (tt, s)
  quiet_target id None s = refl
  quiet_target id (Some target) s = refl

  quiet_targets : (id : EvaluationOrder) (targets : List Place) (s : LastUses)
      → each (hooks.visit_lvalue id) targets s ≡ Ok (tt, s)
  quiet_targets id [] s = refl
  quiet_targets id (target ∷ targets) s = quiet_targets id targets s

  in_turn : FollowedInTurn Follows visits_joining
  in_turn = record { none = none; next = λ first second x y h k. next first second x y h k }

  values_followed : FollowedValues hooks Follows env.functions (visits_of_values env.functions)
  values_followed = record {
    in_turn = in_turn;
    operands = base;
    value = λ id x inside held h. inner inside held h;
    row = λ x inside held h. inner inside held h;
    target = λ x inside held h around uses.
        ap (λ r. bind r (λ a. bind (each (hooks.visit_lvalue x.id) (targets_of x.value) a.1) (λ b. inside b.1)))
        (quiet_target x.id x.lvalue uses)
        ∙ ap (λ r. bind r (λ b. inside b.1)) (quiet_targets x.id (targets_of x.value) uses) ∙ h around uses;
  }

  parts_followed : FollowedParts hooks Follows env.functions (visits_of_parts env.functions)
  parts_followed = record {
    in_turn = in_turn;
    row = rows_followed hooks Follows env.functions (visits_of_values env.functions) values_followed;
    value = values_followed_if hooks Follows env.functions (visits_of_values env.functions) values_followed;
    place = place_if;
    returned = λ id x around uses. refl;
    jump = λ id target around uses. refl;
    at = λ id inside held h. h;
    block = λ x inside held h. inner inside held h;
    scope = λ x inside held h around. inner inside held h (x.scope ∷ around);
    pruned_scope = λ x inside held h. inner inside held h;
    terminal = λ x inside held h. inner inside held h;
  }

  -- the last uses of visits, found from the first one on
  found : (visits : List Visit) (uses left : LastUses) → used visits uses ≡ Ok (tt, left)
      → (name : DeclarationId) → left name ≡ later_if (last_uses_of env visits name) (uses name)
  found [] uses left e name =
      ap (λ (a : Unit {0} × LastUses). a.1 name) (sym (Ok-injective (tt, uses) (tt, left) e))
  found (Ok operand ∷ visits) uses left e name =
      found visits (with_use env operand.id operand.place uses) left e name
      ∙ by (same_id (declaration_of env operand.place.identifier) name)
    where
      by : (b : Bool) → later_if (last_uses_of env visits name) (if b then later_of operand.id (uses name) else uses name)
          ≡ later_if (if b then later_of operand.id (last_uses_of env visits name) else last_uses_of env visits name)
          (uses name)
      by true = sym (later_grouped operand.id (last_uses_of env visits name) (uses name))
      by false = refl
  found (Err fault ∷ visits) uses left e name = cc

  later_alone : (o : Option EvaluationOrder) → later_if o None ≡ o
  later_alone None = refl
  later_alone (Some id) = refl

  -- what the walk leaves
  pub walk_finds : (body : ReactiveBlock) (left : LastUses)
      → read_block hooks env.functions body (λ name. None) ≡ Ok (tt, left) → left ≡ last_uses_in env body
  walk_finds body left e = λ i name. (found (visits_of env.functions body) (λ name. None) left
      (sym (block_followed hooks Follows env.functions (visits_of_parts env.functions) parts_followed body []
      (λ name. None)) ∙ e) name ∙ later_alone (last_uses_in env body name)) i
