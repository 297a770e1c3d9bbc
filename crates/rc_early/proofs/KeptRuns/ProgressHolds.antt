-- What holds of the early returns that were made, and of the one that was met, wherever the pass is in a tree.
use Rattle.std.proofs.Common.{◌≡◌, ◌∙◌, ◌≤◌, ◌+◌, Bool, true, false, List, [], ◌∷◌, ◌++◌, Option, None, Some, Result}
use Rattle.std.proofs.Common.{Ok, Err}
use Rattle.std.proofs.Common.{◌⊎◌, arith, inl, inr, length, nat_eq, slice_get, refl, sym, ap, subst}
use Rattle.std.specs.Prelude.{All, IfOk, IfSome, ◌||◌, if◌then◌else◌}
use Rattle.std.specs.List.{list_any}
use Rattle.std.specs.Option.{option_map_or}
use Rattle.std.proofs.lemmas.Bool.{or_parts}
use Rattle.std.proofs.Math.Bool.{or_assoc, or-false}
use Rattle.std.proofs.lemmas.List.Elements.{All-nil, All-push}
use Rattle.std.proofs.lemmas.List.Folds.{list_any-append}
use Rattle.rc_names.specs.Numbers.{BlockId, ScopeId, same_id}
use Rattle.rc_names.proofs.NumbersLemmas.{ids_equivalence}
use Rattle.rc_hir.specs.Model.{Environment, Fault, Place, ReactiveScope, ReactiveScopeEarlyReturn}
use Rattle.rc_tree.specs.Model.{ReactiveBlock, ReactiveScopeBlock, ReactiveStatement, ReactiveTerminalStatement}
use Rattle.rc_tree.specs.Unrolled.{UnrolledTerminal}
use Rattle.rc_tree.specs.declared.statement.ReactiveStatement.TheOpen as layer
use Rattle.rc_tree.specs.declared.terminal.ReactiveTerminal.{out-ReactiveTerminal}
use Rattle.rc_runs.specs.EarlyReturns.{returns_early}
use Rattle.rc_runs.specs.Returning.{is_early_label}
use Rattle.rc_early.specs.Entries.{has_room, next_entry, with_early_return, with_early_returns}
use Rattle.rc_early.specs.EarlyReturned.{MakesEarlyReturns, Progress, early_return_rules, ended, entered}
use Rattle.rc_early.specs.EarlyReturned.{had_early_return, is_made, is_set}
use Rattle.rc_early.specs.EarlyReturned.{nothing_met, return_within, scope_at, terminal_at}
use Rattle.rc_early.specs.declared.early_return.EarlyReturn.{EarlyReturn}
use Rattle.rc_early.specs.declared.early_return.Where.{Where}
use Rattle.rc_early.specs.declared.early_return.Where.TheVariants.{Outside, Within, PassedOver}
use Rattle.rc_early.proofs.KeptRuns.EarlyLabels.{label_added, one_more, others_stay}
use Rattle.rc_early.proofs.KeptRuns.RulesMove.{RulesMove, block_moves}

-- some early return has that label
abbrev pub has_label : List EarlyReturn → BlockId → Bool
has_label made block = list_any (λ (early : EarlyReturn). same_id early.entry.label block) made

either : {X : Type 0} (P : X → Type 0) (test : Bool) (e f : Result X Fault) → IfOk e P → IfOk f P
    → IfOk (if test then e else f) P
either P true e f h k = h
either P false e f h k = k

module _ (old : Environment) where
  -- the environment with these early returns
  abbrev pub after : List EarlyReturn → Environment
  after made = with_early_returns made old

  -- the label is a new block
  abbrev pub IsNew : ReactiveScopeEarlyReturn → Type 0
  IsNew entry = old.next_block ≤ entry.label.0

  -- scopes without a new early return are as before; the early return labels are those that were there and the new
  -- ones, which are new blocks; and outside scope blocks no `Return` was met
  pub record Sound (s : Progress) : Type 0 where
    pub scopes : (n : ScopeId) → is_made s.made n ≡ false
        → slice_get (after s.made).scopes n.0 ≡ slice_get old.scopes n.0
    pub labels : (block : BlockId)
        → is_early_label (after s.made) block ≡ (is_early_label old block || has_label s.made block)
    pub new : All (λ (early : EarlyReturn). IsNew early.entry) s.made
    pub met : IfSome s.met IsNew
    pub outside : s.at ≡ Outside → s.met ≡ None

  -- the progress after a part: an early return is made outside scope blocks alone, and none is met in what is passed
  -- over
  pub record Moved (s t : Progress) : Type 0 where
    pub sound : Sound t
    pub place : t.at ≡ s.at
    pub made : ¬ (s.at ≡ Outside) → t.made ≡ s.made
    pub passed : s.at ≡ PassedOver → t.met ≡ s.met

  abbrev pub Moves : Progress → Progress → Type 0
  Moves s t = Sound s → Moved s t

  stays : (s : Progress) → Moves s s
  stays s sound = record { sound = sound; place = refl; made = λ inside. refl; passed = λ passed. refl }

  through : (s t u : Progress) → Moves s t → Moves t u → Moves s u
  through s t u first second sound =
      let one = first sound in
      let two = second one.sound in
      record {
        sound = two.sound;
        place = two.place ∙ one.place;
        made = λ inside. two.made (λ e. inside (sym one.place ∙ e)) ∙ one.made inside;
        passed = λ e. two.passed (one.place ∙ e) ∙ one.passed e;
      }

  return_moves : (met : Option ReactiveScopeEarlyReturn) (place : Place) (s : Progress) → s.met ≡ met → s.at ≡ Within
      → IfOk (return_within old met place s) (λ r. Moves s r.0)
  return_moves (Some entry) place s is within = stays s
  return_moves None place s is within = either (λ r. Moves s r.0) (has_room old (length s.made + 1)) _ _ first tt
    where
      entry : ReactiveScopeEarlyReturn
      entry = next_entry old (length s.made) place.span

      first : Moves s (record s { met = Some entry })
      first sound = record {
        sound = record {
          scopes = sound.scopes;
          labels = sound.labels;
          new = sound.new;
          met = omega arith;
          outside = λ e. absurd (let bad : ⊥ = cc in bad);
        };
        place = refl;
        made = λ inside. refl;
        passed = λ e. absurd (let bad : ⊥ = cc in bad);
      }

  terminal_moves : (at : Where) (terminal : UnrolledTerminal) (statement : ReactiveTerminalStatement) (s : Progress)
      → s.at ≡ at → IfOk (terminal_at old at terminal statement s) (λ r. Moves s r.0)
  terminal_moves Within (layer.Return place id) statement s is = return_moves s.met place s refl is
  terminal_moves at terminal statement s is = stays s

  -- inside a scope block it isn't outside
  inside_block : (set : Bool) (at : Where) → ¬ (entered set at ≡ Outside)
  inside_block true at e = cc
  inside_block false Outside e = cc
  inside_block false Within e = cc
  inside_block false PassedOver e = cc

  enters : (set : Bool) (s : Progress) → Sound s → Sound (record s { at = entered set s.at })
  enters set s sound = record {
    scopes = sound.scopes;
    labels = sound.labels;
    new = sound.new;
    met = sound.met;
    outside = λ e. absurd (inside_block set s.at e);
  }

  -- one more early return, of a scope that had none and has no other one
  module _ (s : Progress) (early : EarlyReturn) (scope : ReactiveScope) (sound : Sound s)
      (there : slice_get old.scopes early.scope.0 ≡ Some scope) (unset : returns_early scope ≡ false)
      (apart : is_made s.made early.scope ≡ false) (is_new : IsNew early.entry) where
    abbrev Made : List EarlyReturn
    Made = s.made ++ early ∷ []

    there_now : slice_get (after s.made).scopes early.scope.0 ≡ Some scope
    there_now = sound.scopes early.scope apart ∙ there

    after_more : after Made ≡ with_early_return early (after s.made)
    after_more = one_more s.made early old

    made_more : (block : BlockId) → has_label Made block ≡ (has_label s.made block || same_id early.entry.label block)
    made_more block = list_any-append (λ (other : EarlyReturn). same_id other.entry.label block) s.made (early ∷ [])
        ∙ ap (λ b. has_label s.made block || b) (or-false (same_id early.entry.label block))

    labels_more : (block : BlockId)
        → is_early_label (after Made) block ≡ (is_early_label old block || has_label Made block)
    labels_more block = ap (λ env. is_early_label env block) after_more
        ∙ label_added early (after s.made).scopes scope there_now block unset
        ∙ ap (λ b. b || same_id early.entry.label block) (sound.labels block)
        ∙ or_assoc (is_early_label old block) (has_label s.made block) (same_id early.entry.label block)
        ∙ ap (λ b. is_early_label old block || b) (sym (made_more block))

    apart_from : (n : ScopeId) → same_id early.scope n ≡ false → ¬ (n.0 ≡ early.scope.0)
    apart_from n differs e =
        let same : same_id early.scope n ≡ true = ap (nat_eq early.scope.0) e ∙ ids_equivalence.refl early.scope in cc

    scopes_more : (n : ScopeId) → is_made Made n ≡ false
        → slice_get (after Made).scopes n.0 ≡ slice_get old.scopes n.0
    scopes_more n none =
        let split = or_parts (is_made s.made n) (same_id early.scope n || false)
        (sym (list_any-append (λ (other : EarlyReturn). same_id other.scope n) s.made (early ∷ [])) ∙ none) in
        ap (λ env. slice_get env.scopes n.0) after_more
        ∙ others_stay early (after s.made).scopes scope there_now n.0
        (apart_from n (sym (or-false (same_id early.scope n)) ∙ split.1))
        ∙ sound.scopes n split.0

    sound_more : Sound (record { at = Outside; met = None; made = Made })
    sound_more = record {
      scopes = scopes_more;
      labels = labels_more;
      new = All-push (λ (other : EarlyReturn). IsNew other.entry) s.made early sound.new is_new;
      met = tt;
      outside = λ e. refl;
    }

  -- the end of a scope block: `set` says whether it was passed over
  module _ (of : ScopeId) (inside : ReactiveBlock) (s t : Progress) (set : Bool) (is : is_set old s.made of ≡ set)
      (moved : Moved (record s { at = entered set s.at }) t) (sound : Sound s) where
    abbrev block : ReactiveScopeBlock
    block = record { scope = of; instructions = inside }

    sound_at : (at : Where) → ¬ (at ≡ Outside) ⊎ (t.met ≡ None) → Sound (record t { at = at })
    sound_at at held = record {
      scopes = moved.sound.scopes;
      labels = moved.sound.labels;
      new = moved.sound.new;
      met = moved.sound.met;
      outside = λ e. elim held [ inl never ↦ absurd (never e) | inr none ↦ none ];
    }

    passes : (at : Where) → s.at ≡ at → (set ≡ true) ⊎ (at ≡ PassedOver) → t.met ≡ s.met
    passes at e held = moved.passed (elim held [
      | inl set ↦ ap (λ b. entered b s.at) set
      | inr over ↦ ap (entered set) (e ∙ over) ∙ over_stays set
    ])
      where
        over_stays : (set : Bool) → entered set PassedOver ≡ PassedOver
        over_stays true = refl
        over_stays false = refl

    ends : (entry : ReactiveScopeEarlyReturn) → t.met ≡ Some entry → s.at ≡ Outside → (found : Option ReactiveScope)
        → slice_get old.scopes of.0 ≡ found → IfOk (ended found entry block t) (λ r. Moved s r.0)
    ends entry met outside None found = tt
    ends entry met outside (Some scope) found = by set refl
      where
        by : (b : Bool) → set ≡ b → Moved s
            (record { at = Outside; met = None; made = t.made ++ (record { scope = of; entry = entry }) ∷ [] })
        by true e = absurd (let none : s.met ≡ None = sound.outside outside in
            let same : t.met ≡ s.met = passes Outside outside (inl e) in let bad : ⊥ = cc in bad)
        by false e =
            let unset = or_parts (had_early_return old of) (is_made s.made of) (is ∙ e) in
            record {
              sound = sound_more t (record { scope = of; entry = entry }) scope moved.sound found
                  (sym (ap (λ o. option_map_or returns_early o false) found) ∙ unset.0)
                  (ap (λ made. is_made made of) (moved.made (inside_block set s.at)) ∙ unset.1)
                  (subst (λ met. IfSome met IsNew) met moved.sound.met);
              place = sym outside;
              made = λ inside. absurd (inside outside);
              passed = λ e. absurd (let bad : ⊥ = cc in bad);
            }

    by_place : (at : Where) → s.at ≡ at → (met : Option ReactiveScopeEarlyReturn) → t.met ≡ met
        → IfOk (scope_at old at met block t) (λ r. Moved s r.0)
    by_place Outside e (Some entry) is = ends entry is e (slice_get old.scopes of.0) refl
    by_place Outside e None is = record {
      sound = sound_at Outside (inr is);
      place = sym e;
      made = λ inside. absurd (inside e);
      passed = λ p. absurd (let bad : ⊥ = cc in bad);
    }
    by_place Within e met is = record {
      sound = sound_at Within (inl (λ never. absurd (let bad : ⊥ = cc in bad)));
      place = sym e;
      made = λ inside. moved.made (inside_block set s.at);
      passed = λ p. absurd (let bad : ⊥ = cc in bad);
    }
    by_place PassedOver e met is = record {
      sound = sound_at PassedOver (inl (λ never. absurd (let bad : ⊥ = cc in bad)));
      place = sym e;
      made = λ inside. moved.made (inside_block set s.at);
      passed = λ p. passes PassedOver e (inr refl);
    }

  weaker : (s : Progress) (e : Result (Progress × List ReactiveStatement) Fault)
      → (Sound s → IfOk e (λ r. Moved s r.0)) → IfOk e (λ r. Moves s r.0)
  weaker s (Ok r) h = h
  weaker s (Err fault) h = tt

  all_move : RulesMove (early_return_rules old) Moves
  all_move = record {
    stays = stays;
    through = through;
    row = λ x s. stays s;
    terminal = λ x s. terminal_moves s.at (out-ReactiveTerminal x.terminal) x s refl;
    scope = λ of inside s t moves. weaker s
        (scope_at old s.at t.met (record { scope = of; instructions = inside }) t)
        (λ sound. by_place of inside s t (is_set old s.made of) refl (moves (enters (is_set old s.made of) s sound))
        sound s.at refl t.met refl);
    pruned_scope = λ x s. stays s;
    block = λ xs s. stays s;
  }

  -- nothing is made at the start
  begins : Sound nothing_met
  begins = record {
    scopes = λ n none. refl;
    labels = λ block. sym (or-false (is_early_label old block));
    new = All-nil (λ (early : EarlyReturn). IsNew early.entry);
    met = tt;
    outside = λ e. refl;
  }

  -- what holds after a whole body
  pub after_body : (before after : ReactiveBlock) (made : List EarlyReturn)
      → (makes : MakesEarlyReturns old before after made)
      → Moved nothing_met (record { at = makes.at; met = makes.met; made = made })
  after_body before after made makes =
      block_moves (early_return_rules old) Moves all_move before nothing_met
      (record { at = makes.at; met = makes.met; made = made }) after makes.rebuilt begins
