-- The early returns that the rules make: their variables have the next numbers, and there is room for them. Where there
-- is none, there is none for an early return in each scope block of the tree.
use Rattle.std.proofs.Common.{◌≡◌, ◌∙◌, ◌+◌, ◌*◌, ◌≤◌, ◌<◌, ◌++◌, ℕ, Bool, true, false, List, [], ◌∷◌, Option, None}
use Rattle.std.proofs.Common.{Some}
use Rattle.std.proofs.Common.{Result, Ok, Err, refl, sym, ap, subst, length, slice_get, arith, length-append}
use Rattle.std.specs.Prelude.{◌↔◌, IfOk, IsTrue, if◌then◌else◌}
use Rattle.rc_early.proofs.RoomLemmas.{fits_room, five_identifiers, room_fits}
use Rattle.rc_early.specs.EarlyReturned.{EndsAtFault, MakesEarlyReturns, Progress, early_return_rules, ended, entered}
use Rattle.rc_early.specs.EarlyReturned.{is_set, nothing_met, return_within, scope_at, terminal_at}
use Rattle.rc_early.specs.Entries.{has_room, next_entry, with_early_return}
use Rattle.rc_early.specs.Statements.{stored_return}
use Rattle.rc_early.specs.inside.Growing.{AreNumbered, Fits}
use Rattle.rc_early.specs.declared.early_return.EarlyReturn.{EarlyReturn}
use Rattle.rc_early.specs.declared.early_return.Where.{Where}
use Rattle.rc_early.specs.declared.early_return.Where.TheVariants.{Outside, Within, PassedOver}
use Rattle.rc_hir.specs.Model.{Environment, Fault, Place, ReactiveScope, ReactiveScopeEarlyReturn}
use Rattle.rc_hir.specs.declared.fault.Fault.TheVariants.{NoIds}
use Rattle.rc_names.specs.Numbers.{ScopeId}
use Rattle.rc_tree.proofs.JoiningLemmas.{lists_monoid}
use Rattle.rc_tree.proofs.RebuiltHolds.{HoldsOfRules, and_then, having, rebuilt_holds}
use Rattle.rc_tree.proofs.TerminalShapes.{leaf, of_leaf}
use Rattle.rc_tree.specs.Collected.{collected_list, collected_terminal}
use Rattle.rc_tree.specs.Rebuilt.{Rebuilds, rebuilt_block}
use Rattle.rc_tree.specs.ScopesIn.{scope_parts, scopes_in}
use Rattle.rc_tree.specs.Step.{bind}
use Rattle.rc_tree.specs.Unrolled.{UnrolledTerminal}
use Rattle.rc_tree.specs.Model.{ReactiveBlock, ReactiveScopeBlock, ReactiveStatement, ReactiveTerminal}
use Rattle.rc_tree.specs.Model.{ReactiveTerminalStatement}
use Rattle.rc_tree.specs.declared.statement.ReactiveStatement.TheOpen as layer
use Rattle.rc_tree.specs.declared.statement.ReactiveStatement.TheVariants as reactive
use Rattle.rc_tree.specs.declared.terminal.ReactiveTerminal.{out-ReactiveTerminal}

-- one more early return, whose variable has the next number
numbered_more : (env : Environment) (made : List EarlyReturn) (early : EarlyReturn) → AreNumbered env made
    → early.entry.value.0 ≡ length env.identifiers + 5 * length made → AreNumbered env (made ++ early ∷ [])
numbered_more env [] early all is = (omega (arith, is), tt)
numbered_more env (x ∷ xs) early all is =
    (all.0, numbered_more (with_early_return x env) xs early all.1 (omega (arith, is, five_identifiers env x)))

-- an early return that was begun and not yet made counts as one
abbrev pub pending : Option ReactiveScopeEarlyReturn → ℕ
pending None = 0
pending (Some entry) = 1

-- how many early returns were made or begun
abbrev pub taken : Progress → ℕ
taken s = length s.made + pending s.met

-- how many scope blocks around a place are the outermost one
abbrev inner : Where → ℕ
inner Outside = 0
inner Within = 1
inner PassedOver = 1

entered_inner : (b : Bool) (w : Where) → inner (entered b w) ≡ 1
entered_inner true w = refl
entered_inner false Outside = refl
entered_inner false Within = refl
entered_inner false PassedOver = refl

module _ (env : Environment) where
  -- the entry that was begun has the next number
  abbrev pub IsNext : List EarlyReturn → Option ReactiveScopeEarlyReturn → Type 0
  IsNext made None = Unit {0}
  IsNext made (Some entry) = entry.value.0 ≡ length env.identifiers + 5 * length made

  record Good (s : Progress) : Type 0 where
    numbered : AreNumbered env s.made
    fits : 0 < taken s → Fits env (taken s)
    next : IsNext s.made s.met

  good_at : (s : Progress) (w : Where) → Good s → Good (record s { at = w })
  good_at s w good = record { numbered = good.numbered; fits = good.fits; next = good.next }

  unfoldable Holds : List ScopeId → Progress → Result (Progress × List ScopeId) Fault → Type 0
  Holds x s (Ok r) = (r.0.at ≡ s.at) × ((length r.0.made ≤ length s.made + length x) × (Good s → Good r.0))
  Holds x s (Err fault) = fault ≡ NoIds → Fits env (length s.made + length x + inner s.at) → ⊥

  stays : (x : List ScopeId) (s : Progress) (y : List ScopeId) → Holds x s (Ok (s, y))
  unfolding Holds
  stays x s y = (refl, (omega arith, λ good. good))

  fewer : (a b : ℕ) → a ≤ b → Fits env b → Fits env a
  fewer a b below fits = record {
    identifiers = omega (arith, fits.identifiers);
    types = omega (arith, fits.types);
    blocks = omega (arith, fits.blocks);
  }

  both_hold : (x y : List ScopeId) (s : Progress) (first : Result (Progress × List ScopeId) Fault)
      (next : Rebuilds Progress (List ScopeId)) → Holds x s first → IfOk first (λ c. Holds y c.0 (next c.0))
      → Holds (x ++ y) s (and_then (λ a b. a ++ b) first next)
  unfolding Holds
  both_hold x y s (Err fault) next h k = λ is fits. h is (fewer (length s.made + length x + inner s.at)
      (length s.made + length (x ++ y) + inner s.at) (omega (arith, length-append x y)) fits)
  both_hold x y s (Ok c) next h k = by (next c.0) k
    where
      by : (e : Result (Progress × List ScopeId) Fault) → Holds y c.0 e → Holds (x ++ y) s (having (λ b. c.1 ++ b) e)
      by (Ok d) j = (j.0 ∙ h.0, (omega (arith, h.1.0, j.1.0, length-append x y), λ good. j.1.1 (h.1.1 good)))
      by (Err fault) j = λ is fits. j is (fewer (length c.0.made + length y + inner c.0.at)
          (length s.made + length (x ++ y) + inner s.at)
          (omega (arith, h.1.0, length-append x y, ap inner h.0)) fits)

  -- what a rule does after the inside of its statement
  then_holds : (x : List ScopeId) (s c : Progress) (z : List ScopeId) → Holds x s (Ok (c, z))
      → (e : Result (Progress × List ScopeId) Fault) → Holds [] c e → Holds x s e
  unfolding Holds
  then_holds x s c z h (Ok d) j = (j.0 ∙ h.0, (omega (arith, h.1.0, j.1.0), λ good. j.1.1 (h.1.1 good)))
  then_holds x s c z h (Err fault) j = λ is fits. j is (fewer (length c.made + 0 + inner c.at)
      (length s.made + length x + inner s.at) (omega (arith, h.1.0, ap inner h.0)) fits)

  return_holds : (met : Option ReactiveScopeEarlyReturn) (s : Progress) (place : Place) (x : List ScopeId)
      → s.at ≡ Within
      → Holds x s (having (collected_list scope_parts) (return_within env met place s))
  unfolding Holds
  return_holds (Some entry) s place x is = stays x s (collected_list scope_parts (stored_return entry place))
  return_holds None s place x is = by (has_room env (length s.made + 1)) refl
    where
      by : (room : Bool) → has_room env (length s.made + 1) ≡ room → Holds x s (having (collected_list scope_parts)
          (if room then Ok (
            record s { met = Some (next_entry env (length s.made) place.span) },
            stored_return (next_entry env (length s.made) place.span) place,
          ) else Err NoIds))
      by true room = (
        refl,
        (
          omega arith,
          λ good. record {
            numbered = good.numbered;
            fits = λ some. room_fits env (length s.made + 1) room;
            next = refl;
          },
        ),
      )
      by false room = λ e fits.
          let one = fits_room env (length s.made + 1) (fewer (length s.made + 1) (length s.made + length x + inner s.at)
          (omega (arith, ap inner is)) fits) in
          let no : ⊥ = cc in no

  terminal_holds : (w : Where) (terminal : UnrolledTerminal) (statement : ReactiveTerminalStatement) (s : Progress)
      (x : List ScopeId) → s.at ≡ w
      → Holds x s (having (collected_list scope_parts) (terminal_at env w terminal statement s))
  terminal_holds Outside terminal statement s x is =
      stays x s (collected_list scope_parts (reactive.Terminal statement ∷ []))
  terminal_holds PassedOver terminal statement s x is =
      stays x s (collected_list scope_parts (reactive.Terminal statement ∷ []))
  terminal_holds Within (layer.Return place id) statement s x is = return_holds s.met s place x is
  terminal_holds Within (layer.Break target kind id) statement s x is =
      stays x s (collected_list scope_parts (reactive.Terminal statement ∷ []))
  terminal_holds Within (layer.Continue target kind id) statement s x is =
      stays x s (collected_list scope_parts (reactive.Terminal statement ∷ []))
  terminal_holds Within (layer.Throw place id) statement s x is =
      stays x s (collected_list scope_parts (reactive.Terminal statement ∷ []))
  terminal_holds Within (layer.Switch test cases id) statement s x is =
      stays x s (collected_list scope_parts (reactive.Terminal statement ∷ []))
  terminal_holds Within (layer.DoWhile body test id) statement s x is =
      stays x s (collected_list scope_parts (reactive.Terminal statement ∷ []))
  terminal_holds Within (layer.While test body id) statement s x is =
      stays x s (collected_list scope_parts (reactive.Terminal statement ∷ []))
  terminal_holds Within (layer.For init test update body id) statement s x is =
      stays x s (collected_list scope_parts (reactive.Terminal statement ∷ []))
  terminal_holds Within (layer.ForOf init test body span id) statement s x is =
      stays x s (collected_list scope_parts (reactive.Terminal statement ∷ []))
  terminal_holds Within (layer.ForIn init body span id) statement s x is =
      stays x s (collected_list scope_parts (reactive.Terminal statement ∷ []))
  terminal_holds Within (layer.If test consequent alternate id) statement s x is =
      stays x s (collected_list scope_parts (reactive.Terminal statement ∷ []))
  terminal_holds Within (layer.Label body id) statement s x is =
      stays x s (collected_list scope_parts (reactive.Terminal statement ∷ []))
  terminal_holds Within (layer.Try body binding handler id) statement s x is =
      stays x s (collected_list scope_parts (reactive.Terminal statement ∷ []))

  statement_holds : (statement : ReactiveTerminalStatement) (s : Progress) (x : List ScopeId)
      → Holds x s (having (collected_list scope_parts) ((early_return_rules env).terminal statement s))
  statement_holds statement s x = terminal_holds s.at (out-ReactiveTerminal statement.terminal) statement s x refl

  inside_holds : (x : List ScopeId) (s : Progress) (inside : Result (Progress × ReactiveTerminal) Fault)
      (of : ReactiveTerminal → ReactiveTerminalStatement) → Holds x s (having (collected_terminal scope_parts) inside)
      → Holds x s (having (collected_list scope_parts)
      (bind inside (λ c. (early_return_rules env).terminal (of c.1) c.0)))
  unfolding Holds
  inside_holds x s (Err fault) of h = h
  inside_holds x s (Ok c) of h = then_holds x s c.0 (collected_terminal scope_parts c.1) h _
      (statement_holds (of c.1) c.0 [])

  -- the end of a scope block
  module _ (s c : Progress) (x : List ScopeId) (of : ScopeId) (block : ReactiveScopeBlock)
      (made : length c.made ≤ length s.made + length x) (good : Good s → Good c) where
    abbrev Left : Result (Progress × List ReactiveStatement) Fault → Type 0
    Left e = Holds (x ++ of ∷ []) s (having (collected_list scope_parts) e)

    ended_holds : (found : Option ReactiveScope) (entry : ReactiveScopeEarlyReturn) → s.at ≡ Outside
        → c.met ≡ Some entry
        → Left (ended found entry block c)
    unfolding Holds
    ended_holds None entry out is = λ e fits. let no : ⊥ = cc in no
    ended_holds (Some scope) entry out is =
        let early : EarlyReturn = record { scope = block.scope; entry = entry } in (
          sym out,
          (
            omega (arith, made, length-append c.made (early ∷ []), length-append x (of ∷ [])),
            λ before.
                let k = good before in
                record {
                  numbered = numbered_more env c.made early k.numbered (subst (IsNext c.made) is k.next);
                  fits = λ some. fewer (length (c.made ++ early ∷ []) + 0) (taken c)
                      (omega (arith, length-append c.made (early ∷ []), ap pending is))
                      (k.fits (omega (arith, ap pending is)));
                  next = tt;
                },
          ),
        )

    kept_holds : (w : Where) (kept : List ReactiveStatement) → s.at ≡ w → Left (Ok (record c { at = w }, kept))
    unfolding Holds
    kept_holds w kept is = (
      sym is,
      (
        omega (arith, made, length-append x (of ∷ [])),
        λ before. good_at c w (good before),
      ),
    )

    left_holds : (w : Where) (met : Option ReactiveScopeEarlyReturn) → s.at ≡ w → c.met ≡ met
        → Left (scope_at env w met block c)
    left_holds Outside (Some entry) is has = ended_holds (slice_get env.scopes block.scope.0) entry is has
    left_holds Outside None is has = kept_holds Outside (reactive.Scope block ∷ []) is
    left_holds Within met is has = kept_holds Within (reactive.Scope block ∷ []) is
    left_holds PassedOver met is has = kept_holds PassedOver (reactive.Scope block ∷ []) is

  scope_holds : (x : List ScopeId) (of : ScopeId) (s : Progress) (inside : Result (Progress × ReactiveBlock) Fault)
      → Holds x ((early_return_rules env).into_scope of s) (having scopes_in inside)
      → Holds (x ++ of ∷ []) s (having (collected_list scope_parts)
      (bind inside (λ c. (early_return_rules env).scope s (record { scope = of; instructions = c.1 }) c.0)))
  unfolding Holds
  scope_holds x of s (Err fault) h = λ is fits. h is (fewer
      (length s.made + length x + inner (entered (is_set env s.made of) s.at))
      (length s.made + length (x ++ of ∷ []) + inner s.at)
      (omega (arith, length-append x (of ∷ []), entered_inner (is_set env s.made of) s.at)) fits)
  scope_holds x of s (Ok c) h = left_holds s c.0 x of (record { scope = of; instructions = c.1 }) h.1.0
      (λ good. h.1.1 (good_at s (entered (is_set env s.made of) s.at) good)) s.at c.0.met refl refl

  pruned_holds : (x : List ScopeId) (of : ScopeId) (s : Progress) (inside : Result (Progress × ReactiveBlock) Fault)
      → Holds x s (having scopes_in inside)
      → Holds x s (having (collected_list scope_parts)
      (bind inside (λ c. (early_return_rules env).pruned_scope (record { scope = of; instructions = c.1 }) c.0)))
  unfolding Holds
  pruned_holds x of s (Err fault) h = h
  pruned_holds x of s (Ok c) h = h

  block_holds : (x : List ScopeId) (s : Progress) (inside : Result (Progress × List ReactiveStatement) Fault)
      → Holds x s (having (collected_list scope_parts) inside)
      → Holds x s (having (collected_list scope_parts) (bind inside (λ c. (early_return_rules env).block c.1 c.0)))
  unfolding Holds
  block_holds x s (Err fault) h = h
  block_holds x s (Ok c) h = h

  all_hold : HoldsOfRules (early_return_rules env) Holds scope_parts scope_parts
  all_hold = record {
    nothing = λ s. stays [] s [];
    both = both_hold;
    value = λ id x s. stays [] s [];
    place = λ id x s. stays [] s [];
    row = λ x s. stays [] s (collected_list scope_parts (reactive.Instruction x ∷ []));
    leaf = λ shape label s. statement_holds (record { terminal = leaf shape; label = label }) s
        (of_leaf scope_parts shape);
    terminal = λ x label s inside deep h. inside_holds x s inside (λ t. record { terminal = t; label = label }) h;
    scope = scope_holds;
    pruned_scope = pruned_holds;
    block = block_holds;
  }

  every_block_holds : (x : ReactiveBlock) (s : Progress)
      → Holds (scopes_in x) s (having scopes_in (rebuilt_block (early_return_rules env) x s))
  every_block_holds = rebuilt_holds (early_return_rules env) Holds scope_parts scope_parts lists_monoid all_hold

  -- the early returns that are made are numbered, and there is room for them
  pub made_numbered : (before after : ReactiveBlock) (made : List EarlyReturn) → MakesEarlyReturns env before after made
      → AreNumbered env made × (0 < length made → Fits env (length made))
  unfolding Holds
  made_numbered before after made is =
      let known = subst (λ e. Holds (scopes_in before) nothing_met (having scopes_in e)) is.rebuilt
      (every_block_holds before nothing_met) in
      let good = known.1.1 (record {
        numbered = tt;
        fits = λ some. absurd (let no : ⊥ = omega (arith, some) in no);
        next = tt;
      }) in (
        good.numbered,
        λ some. fewer (length made) (length made + pending is.met) (omega arith)
            (good.fits (omega (arith, some))),
      )

  -- where there is room for an early return in each scope block, numbers don't run out
  pub numbers_left : (before : ReactiveBlock) → EndsAtFault env before NoIds → Fits env (length (scopes_in before)) → ⊥
  unfolding Holds
  numbers_left before ends fits =
      subst (λ e. Holds (scopes_in before) nothing_met (having scopes_in e)) ends (every_block_holds before nothing_met)
      refl
      (fewer (0 + length (scopes_in before) + 0) (length (scopes_in before)) (omega arith) fits)

-- the list has an entry
pub has_some : {X : Type 0} (xs : List X) (empty : Bool) → (IsTrue empty ↔ (xs ≡ [])) → empty ≡ false → 0 < length xs
has_some [] empty tells is = let full : empty ≡ true = tells.1 refl in let no : ⊥ = cc in absurd no
has_some (x ∷ xs) empty tells is = omega arith
