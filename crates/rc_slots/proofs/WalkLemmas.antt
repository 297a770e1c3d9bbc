-- The walk that lists scopes lists those of the scope blocks, in the order in which it enters them.
use Rattle.std.proofs.Common.{◌≡◌, ◌∙◌, List, [], ◌∷◌, ◌++◌, Option, None, Some, Ok, refl, sym, ap}
use Rattle.std.proofs.lemmas.List.{append-nil, append_assoc}
use Rattle.rc_hir.specs.Model.{HirFunction, Place}
use Rattle.rc_names.specs.Numbers.{EvaluationOrder, ScopeId}
use Rattle.rc_tree.proofs.ReadFollowed.{FollowedParts, block_followed}
use Rattle.rc_tree.proofs.StepLemmas.{Ok-injective}
use Rattle.rc_tree.specs.Step.{Walk, bind, each, next_to, perhaps}
use Rattle.rc_tree.specs.Read.{read_block}
use Rattle.rc_tree.specs.Read.Values.{read_instruction, read_value}
use Rattle.rc_tree.specs.Model.{ReactiveBlock, ReactiveInstruction, ReactiveValue}
use Rattle.rc_slots.specs.ScopeBlocks.{entered_parts, scopes_entered}
use Rattle.rc_slots.specs.inside.ScopeSteps.{scope_steps}

-- the places of a context have no scope block
pub context_lists : (id : EvaluationOrder) (places : List Place) (scopes : List ScopeId)
    → each (scope_steps.visit_place id) places scopes ≡ Ok (tt, scopes)
context_lists id [] scopes = refl
context_lists id (place ∷ places) scopes = context_lists id places scopes

-- the walk lists these scopes after those that are listed
abbrev Lists : Walk (List ScopeId) → List ScopeId → Type 0
Lists walk found = (scopes : List ScopeId) → walk scopes ≡ Ok (tt, scopes ++ found)

nothing : Lists (λ scopes. Ok (tt, scopes)) []
nothing scopes = ap (λ found. Ok (tt, found)) (sym (append-nil scopes))

next : (first second : Walk (List ScopeId)) (found more : List ScopeId) → Lists first found → Lists second more
    → Lists (next_to first second) (found ++ more)
next first second found more h k scopes =
    ap (λ r. bind r (λ a. second a.1)) (h scopes) ∙ k (scopes ++ found)
    ∙ ap (λ all. Ok (tt, all)) (append_assoc scopes found more)

-- a part whose hooks list nothing
inner : (walk : Walk (List ScopeId)) (found : List ScopeId) → Lists walk found
    → Lists (λ scopes. bind (walk scopes) (λ r. Ok (tt, r.1))) found
inner walk found h scopes = ap (λ r. bind r (λ a. Ok (tt, a.1))) (h scopes)

module _ (functions : List HirFunction) where
  row : (x : ReactiveInstruction) → Lists (read_instruction scope_steps functions x) []
  unfolding read_instruction
  row x = nothing

  value : (id : EvaluationOrder) (x : Option ReactiveValue)
      → Lists (perhaps (λ y. read_value scope_steps functions y id) x) []
  unfolding read_value
  value id None = nothing
  value id (Some x) = nothing

  place : (id : EvaluationOrder) (x : Option Place) → Lists (perhaps (scope_steps.visit_place id) x) []
  place id None = nothing
  place id (Some x) = nothing

  followed : FollowedParts scope_steps Lists functions entered_parts
  followed = record {
    in_turn = record { none = nothing; next = λ first second x y h k. next first second x y h k };
    row = row;
    value = value;
    place = place;
    returned = λ id x. nothing;
    jump = λ id target. nothing;
    at = λ id inside found h. h;
    block = λ x inside found h. inner inside found h;
    scope = λ x inside found h scopes. inner inside found h (scopes ++ x.scope ∷ [])
        ∙ ap (λ all. Ok (tt, all)) (append_assoc scopes (x.scope ∷ []) found);
    pruned_scope = λ x inside found h. inner inside found h;
    terminal = λ x inside found h. inner inside found h;
  }

  -- what the walk leaves, where nothing is listed before
  pub walk_lists : (body : ReactiveBlock) (scopes left : List ScopeId) → scopes ≡ []
      → read_block scope_steps functions body scopes ≡ Ok (tt, left) → left ≡ scopes_entered body
  walk_lists body scopes left none e =
      ap (λ (a : Unit {0} × List ScopeId). a.1)
      (Ok-injective (tt, left) (tt, scopes ++ scopes_entered body)
      (sym e ∙ block_followed scope_steps Lists functions entered_parts followed body scopes))
      ∙ ap (λ before. before ++ scopes_entered body) none
