-- The steps of the walk that lists the scopes of scope blocks: each is listed when its block is entered.
use Rattle.std.specs.Prelude.{List, [], ◌∷◌, ◌++◌, Ok}
use Rattle.rc_names.specs.Numbers.{ScopeId}
use Rattle.rc_tree.specs.ReadSteps.{ReadSteps, idle}
use Rattle.rc_tree.specs.declared.hooks.Enter.TheVariants.{Inside, Skip}

abbrev pub scope_steps : ReadSteps (List ScopeId)
scope_steps = record idle {
  enter_instruction = λ x scopes. Ok (Skip, scopes);
  enter_value = λ id x scopes. Ok (Skip, scopes);
  enter_scope = λ x scopes. Ok (Inside, scopes ++ x.scope ∷ []);
}
