-- The membership check's walk goes through the visits of the tree in their order, and leaves the scopes around as they
-- were.
use Rattle.std.proofs.Common.{◌≡◌, ℕ, List, [], ◌∷◌, ◌++◌, map, drop, Option, None, Some, Result, Ok, Err}
use Rattle.std.proofs.Common.{option_map, refl, sym, ap, ◌∙◌}
use Rattle.std.specs.List.{AllByRecursion}
use Rattle.rc_hir.specs.Operands.{operands, context_found}
use Rattle.rc_hir.specs.Model.{Environment, Fault, TableName, HirFunction, InstructionValue, Place}
use Rattle.rc_hir.specs.declared.fault.Fault.TheVariants.{BadName}
use Rattle.rc_hir.specs.declared.fault.TableName.TheVariants.{Functions}
use Rattle.rc_hir.specs.declared.instruction.InstructionValue.TheVariants as kinds
use Rattle.rc_names.specs.Numbers.{EvaluationOrder, FunctionId, ScopeId}
use Rattle.rc_tree.proofs.ReadFollowed.{FollowedParts, block_followed}
use Rattle.rc_tree.proofs.ReadFollowedValues.{FollowedInTurn, FollowedValues, rows_followed, values_followed_if}
use Rattle.rc_tree.specs.Collected.{collected}
use Rattle.rc_tree.specs.Joining.{all_of, if_there}
use Rattle.rc_tree.specs.Step.{Walk, bind, next_to, each, perhaps}
use Rattle.rc_tree.specs.Read.{read_block}
use Rattle.rc_tree.specs.Read.Values.{inside_base}
use Rattle.rc_tree.specs.ReadSteps.{ReadSteps, targets_of}
use Rattle.rc_tree.specs.Model.{ReactiveBlock}
use Rattle.rc_checks.specs.declared.membership.visitor.Outside.{Outside}
use Rattle.rc_checks.specs.declared.membership.visitor.Seen.{Seen}
use Rattle.rc_checks.specs.inside.MembershipSteps.{visit_step, after_visits, membership_steps}
use Rattle.rc_tree.specs.Visits.{Visit, Visits, of_operands, operand_visit, visits_joining, visits_of}
use Rattle.rc_tree.specs.Visits.{visits_of_parts, visits_of_values}

-- the faults of reading operands

abbrev pub IsBadName : Fault → Type 0
IsBadName fault = (table : TableName) × (index : ℕ) × (fault ≡ BadName table index)

-- a failure names a number
abbrev pub Names : {A : Type 0} → Result A Fault → Type 0
Names (Ok a) = Unit {0}
Names (Err fault) = IsBadName fault

context_names : (number : FunctionId) (found : Option HirFunction) → Names (context_found number found)
context_names number None = (Functions, number.0, refl)
context_names number (Some function) = tt

operands_name : (functions : List HirFunction) (x : InstructionValue) → Names (operands functions x)
operands_name functions (kinds.ObjectMethod lowered span) = context_names lowered.func _
operands_name functions (kinds.FunctionExpression name lowered span) = context_names lowered.func _
operands_name functions _ = tt

names-append : (xs ys : List Visit) → AllByRecursion Names xs → AllByRecursion Names ys
    → AllByRecursion Names (xs ++ ys)
names-append [] ys all more = more
names-append (x ∷ xs) ys all more = (all.0, names-append xs ys all.1 more)

module _ (env : Environment) (blocks : List ScopeId) where
  abbrev steps : ReadSteps Seen
  steps = membership_steps env blocks

  abbrev functions : List HirFunction
  functions = env.functions

  abbrev after : List Visit → Option Outside → Result (Option Outside) Fault
  after = after_visits env blocks

  abbrev pub seen : List ScopeId → Option Outside → Seen
  seen around last = record { around = around; outside = last }

  -- the walk's answer, from the state that its visits left
  abbrev pub told : List ScopeId → Result (Option Outside) Fault → Result (Unit {0} × Seen) Fault
  told around r = bind r (λ last. Ok (tt, seen around last))

  after-append : (xs ys : List Visit) (last : Option Outside) → after (xs ++ ys) last ≡ bind (after xs last) (after ys)
  after-append [] ys last = refl
  after-append (x ∷ xs) ys last = behind (visit_step env blocks x last) (after-append xs ys)
    where
      behind : (r : Result (Option Outside) Fault) → ((l : Option Outside)
          → after (xs ++ ys) l ≡ bind (after xs l) (after ys)) →
          bind r (after (xs ++ ys)) ≡ bind (bind r (after xs)) (after ys)
      behind (Ok l) later = later l
      behind (Err fault) later = refl

  -- the walk goes through these visits, whatever is around it
  pub record Follows (walk : Walk Seen) (visits : Visits) : Type 0 where
    pub tells : (around : List ScopeId) (last : Option Outside)
        → walk (seen around last) ≡ told around (after (visits around) last)
    pub names : (around : List ScopeId) → AllByRecursion Names (visits around)

  none : Follows (λ s. Ok (tt, s)) visits_joining.nothing
  none = record { tells = λ around last. refl; names = λ around. tt }

  next : {first second : Walk Seen} {visits others : Visits} → Follows first visits → Follows second others
      → Follows (next_to first second) (visits_joining.both visits others)
  next {first} {second} {visits} {others} h k = record {
    tells = λ around last.
        ap (λ r. bind r (λ a. second a.1)) (h.tells around last)
        ∙ behind around (after (visits around) last)
        ∙ ap (told around) (sym (after-append (visits around) (others around) last));
    names = λ around. names-append (visits around) (others around) (h.names around) (k.names around);
  }
    where
      behind : (around : List ScopeId) (r : Result (Option Outside) Fault)
          → bind (told around r) (λ a. second a.1) ≡ told around (bind r (after (others around)))
      behind around (Ok l) = k.tells around l
      behind around (Err fault) = refl

  -- a walk that does nothing, in front
  behind_quiet : (quiet_walk : Walk Seen) {walk : Walk Seen} {visits : Visits}
      → ((s : Seen) → quiet_walk s ≡ Ok (tt, s)) → Follows walk visits → Follows (next_to quiet_walk walk) visits
  behind_quiet quiet_walk {walk} {visits} still h = record {
    tells = λ around last. ap (λ r. bind r (λ a. walk a.1)) (still (seen around last)) ∙ h.tells around last;
    names = h.names;
  }

  -- a part whose enter and leave hooks do nothing
  inner : {walk : Walk Seen} {visits : Visits} → Follows walk visits
      → Follows (λ s. bind (walk s) (λ r. Ok (tt, r.1))) visits
  inner {walk} {visits} h = record {
    tells = λ around last. ap (λ r. bind r (λ a. Ok (tt, a.1))) (h.tells around last)
        ∙ again around (after (visits around) last);
    names = h.names;
  }
    where
      again : (around : List ScopeId) (r : Result (Option Outside) Fault)
          → bind {B = Unit {0} × Seen} (told around r) (λ a. Ok (tt, a.1)) ≡ told around r
      again around (Ok l) = refl
      again around (Err fault) = refl

  -- a scope block is around its inside, and not around what comes after it
  inside_of : (scope : ScopeId) {walk : Walk Seen} {visits : Visits} → Follows walk visits →
      Follows (λ s. bind (walk (seen (scope ∷ s.around) s.outside))
      (λ r. Ok (tt, seen (drop 1 r.1.around) r.1.outside))) (λ around. visits (scope ∷ around))
  inside_of scope {walk} {visits} h = record {
    tells = λ around last.
        ap (λ r. bind r (λ a. Ok (tt, seen (drop 1 a.1.around) a.1.outside))) (h.tells (scope ∷ around) last)
        ∙ again around (after (visits (scope ∷ around)) last);
    names = λ around. h.names (scope ∷ around);
  }
    where
      again : (around : List ScopeId) (r : Result (Option Outside) Fault) →
          bind {B = Unit {0} × Seen} (told (scope ∷ around) r) (λ a. Ok (tt, seen (drop 1 a.1.around) a.1.outside))
          ≡ told around r
      again around (Ok l) = refl
      again around (Err fault) = refl

  place : (id : EvaluationOrder) (p : Place) → Follows (steps.visit_place id p) (operand_visit id p)
  place id p = record {
    tells = λ around last. alone around (visit_step env blocks (Ok (record { id = id; place = p; enclosing = around }))
        last);
    names = λ around. (tt, tt);
  }
    where
      alone : (around : List ScopeId) (r : Result (Option Outside) Fault)
          → told around r ≡ told around (bind r (after []))
      alone around (Ok l) = refl
      alone around (Err fault) = refl

  places : (id : EvaluationOrder) (ps : List Place) → Follows (each (steps.visit_place id) ps)
      (all_of visits_joining (map (operand_visit id) ps))
  places id [] = none
  places id (p ∷ ps) = next (place id p) (places id ps)

  place_if : (id : EvaluationOrder) (p : Option Place) → Follows (perhaps (steps.visit_place id) p)
      (if_there visits_joining (option_map (operand_visit id) p))
  place_if id None = none
  place_if id (Some p) = place id p

  -- the operands of an instruction

  base : (x : InstructionValue) (id : EvaluationOrder) → Follows (inside_base steps functions x id)
      (of_operands id (operands functions x))
  base x id = by (operands functions x) (operands_name functions x)
    where
      by : (r : Result (List Place) Fault) → Names r → Follows (λ s. bind r (λ ps. each (steps.visit_place id) ps s))
          (of_operands id r)
      by (Ok ps) named = places id ps
      by (Err fault) named = record { tells = λ around last. refl; names = λ around. (named, tt) }

  quiet_target : (id : EvaluationOrder) (target : Option Place) (s : Seen)
      → perhaps (steps.visit_lvalue id) target s ≡ Ok (tt, s)
  quiet_target id None s = refl
  quiet_target id (Some target) s = refl

  quiet_targets : (id : EvaluationOrder) (targets : List Place) (s : Seen)
      → each (steps.visit_lvalue id) targets s ≡ Ok (tt, s)
  quiet_targets id [] s = refl
  quiet_targets id (target ∷ targets) s = quiet_targets id targets s

  in_turn : FollowedInTurn Follows visits_joining
  in_turn = record { none = none; next = λ first second x y h k. next h k }

  -- the hooks of values and rows
  values_followed : FollowedValues steps Follows functions (visits_of_values functions)
  values_followed = record {
    in_turn = in_turn;
    operands = λ id x. base x id;
    value = λ id x inside held h. inner h;
    row = λ x inside held h. inner h;
    target = λ x inside held h.
        behind_quiet (perhaps (steps.visit_lvalue x.id) x.lvalue) (quiet_target x.id x.lvalue)
        (behind_quiet (each (steps.visit_lvalue x.id) (targets_of x.value)) (quiet_targets x.id (targets_of x.value))
        h);
  }

  -- the hooks of the other parts
  parts_followed : FollowedParts steps Follows functions (visits_of_parts functions)
  parts_followed = record {
    in_turn = in_turn;
    row = rows_followed steps Follows functions (visits_of_values functions) values_followed;
    value = values_followed_if steps Follows functions (visits_of_values functions) values_followed;
    place = place_if;
    returned = place;
    jump = λ id target. none;
    at = λ id inside held h. h;
    block = λ x inside held h. inner h;
    scope = λ x inside held h. inside_of x.scope h;
    pruned_scope = λ x inside held h. inner h;
    terminal = λ x inside held h. inner h;
  }

  body_followed : (body : ReactiveBlock)
      → Follows (read_block steps functions body) (collected (visits_of_parts functions) body)
  body_followed = block_followed steps Follows functions (visits_of_parts functions) parts_followed

  -- the whole walk goes through the visits of the body
  pub walk_follows : (body : ReactiveBlock) (last : Option Outside) →
      read_block steps functions body (seen [] last) ≡ told [] (after (visits_of functions body) last)
  walk_follows body last = (body_followed body).tells [] last

  -- and a failure among them names a number
  pub visits_name : (body : ReactiveBlock) → AllByRecursion Names (visits_of functions body)
  visits_name body = (body_followed body).names []
