-- A graph spells at most one value from a block on, and the value's blocks are used in one order.
use Rattle.std.proofs.Common.{◌≡◌, Bool, true, false, List, [], ◌∷◌, ◌++◌, Option, Some, refl, sym, ap, ◌∙◌, subst}
use Rattle.std.proofs.Common.{if◌then◌else◌}
use Rattle.std.proofs.lemmas.List.{same_from_push}
use Rattle.rc_names.specs.Numbers.{BlockId, EvaluationOrder}
use Rattle.rc_names.specs.declared.span.Span.{Span}
use Rattle.rc_hir.specs.Model.{Terminal, HirFunction, Environment}
use Rattle.rc_hir.specs.declared.terminal.Terminal.TheVariants as terminals
use Rattle.rc_runs.specs.Graph.{Block, block_at, usable_block, only_goes, is_empty_goto}
use Rattle.rc_runs.specs.PlainTree.{Value}
use Rattle.rc_runs.specs.ListContext.{ValueContext}
use Rattle.rc_runs.specs.LastRow.{ends_value}
use Rattle.rc_runs.specs.AnsweredTest.{answers_test}
use Rattle.rc_runs.specs.ValueEnd.{ValueEnd, ChoosesBetween}
use Rattle.rc_runs.specs.ShortArms.{SpellsShortArm}
use Rattle.rc_runs.specs.LoopValues.{SpellsGoing, SpellsTest}
use Rattle.rc_runs.specs.ValueGrammar.{Nested, SpellsValue, named_test, last_block, last_throw, may_throw, value_row}
use Rattle.rc_runs.specs.ValueGrammar.{SpellsNested, sequence_value, ternary_value, logical_value, optional_value}
use Rattle.rc_runs.proofs.GraphLemmas.{one_held, is_empty_goto-at, one_kind, one_continuation}
use Rattle.rc_runs.proofs.OneArm.{one_short_arm}

-- a list with an element at its end isn't empty
pub not_empty : {A : Type 0} (front : List A) (last : A) → [] ≡ front ++ last ∷ [] → ⊥
not_empty [] last e = let bad : ⊥ = cc in bad
not_empty (first ∷ front) last e = let bad : ⊥ = cc in bad

-- the same value with the same end, and the same used blocks
abbrev pub SameValue : Value → ValueEnd → List BlockId → Value → ValueEnd → List BlockId → Type 0
SameValue v e v_used w f w_used = (v ≡ w) × (e ≡ f) × (v_used ≡ w_used)

-- whether the row answers the test that the whole value is
abbrev pub row_answers : Environment → Bool → Nested → Value → Bool
row_answers env is_test nested value = if is_test then answers_test env nested.answer value else false

-- the block with that terminal may throw
abbrev is_may_throw : Terminal → Bool
is_may_throw (terminals.MaybeThrow continuation named id span) = true
is_may_throw _ = false

-- equal ends choose between the same blocks
pub one_choice : {env : Environment} {e f : ValueEnd} {a b c d : BlockId} → e ≡ f → (one : ChoosesBetween env a b e)
    → (other : ChoosesBetween env c d f) → (a ≡ c) × (b ≡ d) × (one.span ≡ other.span)
one_choice {a = a} {b} {c} {d} same one other =
    let alike : terminals.Branch one.test a b one.id one.span ≡ terminals.Branch other.test c d other.id other.span =
    sym one.chooses ∙ ap (λ (e : ValueEnd). e.last) same ∙ other.chooses in
    (cc, cc, cc)

-- a value ends at a block that may throw, or it goes on there
ends_or_goes_on : (hir : HirFunction) (key : BlockId) {block other behind : Block} {c d : BlockId}
    {n m : Option BlockId}
    {id number : EvaluationOrder} {s t : Option Span} → usable_block hir key ≡ Some block
    → block.terminal ≡ terminals.MaybeThrow c n id s → usable_block hir c ≡ Some behind
    → only_goes behind.rows behind.terminal ≡ true → usable_block hir key ≡ Some other
    → other.terminal ≡ terminals.MaybeThrow d m number t → is_empty_goto (block_at hir d) ≡ false → ⊥
ends_or_goes_on hir key {behind = behind} {c} found ends goes only found' ends' more =
    let same = ap (λ key. is_empty_goto (block_at hir key)) (one_continuation hir key found ends found' ends') in
    let empty = is_empty_goto-at hir c behind goes in
    let bad : ⊥ = cc in bad

module _ {hir : HirFunction} {env : Environment} where
  -- a value terminal ends no value
  pub nested_ends_no_value : {handler : Option BlockId} {terminal : Terminal} {nested : Nested} {used : List BlockId}
      → SpellsNested hir env handler terminal nested used → ends_value terminal ≡ false
  nested_ends_no_value (sequence_value d g) = refl
  nested_ends_no_value (ternary_value t c d g e h u) = refl
  nested_ends_no_value (logical_value t c d s e h u) = refl
  nested_ends_no_value (optional_value t c a d g u) = refl

  -- and none is the end of a block that may throw
  nested_never_throws : {handler : Option BlockId} {terminal : Terminal} {nested : Nested} {used : List BlockId}
      → SpellsNested hir env handler terminal nested used → is_may_throw terminal ≡ false
  nested_never_throws (sequence_value d g) = refl
  nested_never_throws (ternary_value t c d g e h u) = refl
  nested_never_throws (logical_value t c d s e h u) = refl
  nested_never_throws (optional_value t c a d g u) = refl

  -- the short arm of an equal row before an equal value
  arm_at : {handler : Option BlockId} (is_test : Bool) {n m : Nested} {v w : Value} {e f : ValueEnd}
      {left : Option BlockId} {used : List BlockId} → m ≡ n → w ≡ v → f ≡ e
      → SpellsShortArm hir env handler m.fallthrough (row_answers env is_test m w) m.short f.left_open left used
      → SpellsShortArm hir env handler n.fallthrough (row_answers env is_test n v) n.short e.left_open left used
  arm_at {handler} is_test {n} {m} {v} {w} {e} {f} {left} {used} row value end d =
      subst (λ (e : ValueEnd). SpellsShortArm hir env handler n.fallthrough (row_answers env is_test n v) n.short
      e.left_open left used) end
      (subst (λ v. SpellsShortArm hir env handler n.fallthrough (row_answers env is_test n v) n.short f.left_open left
      used) value
      (subst (λ (n : Nested). SpellsShortArm hir env handler n.fallthrough (row_answers env is_test n w) n.short
      f.left_open left used) row d))

  -- the value from an equal block
  value_at : {key other : BlockId} {context : ValueContext} {value : Value} {end : ValueEnd} {used : List BlockId}
      → other ≡ key → SpellsValue hir env other context value end used
      → SpellsValue hir env key context value end used
  value_at {context = context} {value} {end} {used} same d =
      subst (λ key. SpellsValue hir env key context value end used) same d

  mutual
    pub one_value : {key : BlockId} {context : ValueContext} {v w : Value} {e f : ValueEnd} {a b : List BlockId}
        → SpellsValue hir env key context v e a → SpellsValue hir env key context w f b → SameValue v e a w f b
    one_value (named_test {block = block} {test = test} {consequent = c} {alternate = a} {id = id} {span = s} found
        empty
        ends) (named_test {block = other} {test = test'} {consequent = c'} {alternate = a'} {id = id'} {span = s'}
        found'
        empty' ends') =
        let same : block ≡ other = one_held found' found in
        let alike : terminals.Branch test c a id s ≡ terminals.Branch test' c' a' id' s' =
        sym ends ∙ ap (λ (b : Block). b.terminal) same ∙ ends' in
        let place : test ≡ test' = cc in
        let number : id ≡ id' = cc in
        (cc, cc, refl)
    one_value (named_test {block = block} found empty ends) (last_block {block = other} rows row found' h whole) =
        let same : block ≡ other = one_held found' found in
        absurd (not_empty rows row (sym empty ∙ ap (λ (b : Block). b.rows) same ∙ whole))
    one_value (last_block {block = block} rows row found h whole) (named_test {block = other} found' empty ends) =
        let same : block ≡ other = one_held found' found in
        absurd (not_empty rows row (sym empty ∙ ap (λ (b : Block). b.rows) (sym same) ∙ whole))
    one_value (last_block {block = block} rows row found h whole)
        (last_block {block = other} rows' row' found' h' whole') =
        let same : block ≡ other = one_held found' found in
        let alike = same_from_push rows rows' row row' (sym whole ∙ ap (λ (b : Block). b.rows) same ∙ whole') in
        (cc, cc, refl)
    one_value (last_throw {continuation = c} {block = block} {behind = behind} rows row found ends h whole goes only)
        (last_throw {continuation = d} {block = other} {behind = behind'} rows' row' found' ends' h' whole' goes'
        only') =
        let same : block ≡ other = one_held found' found in
        let next : d ≡ c = one_continuation hir _ found ends found' ends' in
        let last : behind ≡ behind' = one_held goes' (ap (λ key. usable_block hir key) next ∙ goes) in
        let alike = same_from_push rows rows' row row' (sym whole ∙ ap (λ (b : Block). b.rows) same ∙ whole') in
        (cc, cc, cc)
    one_value (may_throw {block = block} {value = v} {end = e} found ends h more d w)
        (may_throw {block = other} {value = v'} {end = e'} found' ends' h' more' d' w') =
        let same : block ≡ other = one_held found' found in
        let k = one_value d (value_at (one_continuation hir _ found ends found' ends') d') in
        (cc, k.1, cc)
    one_value (last_throw rows row found ends h whole goes only) (may_throw found' ends' h' more d w) =
        absurd (ends_or_goes_on hir _ found ends goes only found' ends' more)
    one_value (may_throw found ends h more d w) (last_throw rows row found' ends' h' whole goes only) =
        absurd (ends_or_goes_on hir _ found' ends' goes only found ends more)
    one_value (named_test found empty ends) (last_throw rows row found' ends' h whole goes only) =
        absurd (one_kind hir ends_value _ found' (ap ends_value ends') found (ap ends_value ends))
    one_value (last_throw rows row found ends h whole goes only) (named_test found' empty ends') =
        absurd (one_kind hir ends_value _ found (ap ends_value ends) found' (ap ends_value ends'))
    one_value (named_test found empty ends) (may_throw found' ends' h more d w) =
        absurd (one_kind hir ends_value _ found' (ap ends_value ends') found (ap ends_value ends))
    one_value (may_throw found ends h more d w) (named_test found' empty ends') =
        absurd (one_kind hir ends_value _ found (ap ends_value ends) found' (ap ends_value ends'))
    one_value (last_block rows row found h whole) (last_throw rows' row' found' ends' h' whole' goes only) =
        absurd (one_kind hir ends_value _ found' (ap ends_value ends') found h)
    one_value (last_throw rows row found ends h whole goes only) (last_block rows' row' found' h' whole') =
        absurd (one_kind hir ends_value _ found (ap ends_value ends) found' h')
    one_value (last_block rows row found h whole) (may_throw found' ends' h' more d w) =
        absurd (one_kind hir ends_value _ found' (ap ends_value ends') found h)
    one_value (may_throw found ends h more d w) (last_block rows row found' h' whole) =
        absurd (one_kind hir ends_value _ found (ap ends_value ends) found' h')
    one_value (named_test found empty ends) (value_row found' d e s w g u) =
        absurd (one_kind hir ends_value _ found' (nested_ends_no_value d) found (ap ends_value ends))
    one_value (value_row found' d e s w g u) (named_test found empty ends) =
        absurd (one_kind hir ends_value _ found' (nested_ends_no_value d) found (ap ends_value ends))
    one_value (last_block rows row found h whole) (value_row found' d e s w g u) =
        absurd (one_kind hir ends_value _ found' (nested_ends_no_value d) found h)
    one_value (value_row found' d e s w g u) (last_block rows row found h whole) =
        absurd (one_kind hir ends_value _ found' (nested_ends_no_value d) found h)
    one_value (last_throw rows row found ends h whole goes only) (value_row found' d e s w g u) =
        absurd (one_kind hir is_may_throw _ found' (nested_never_throws d) found (ap is_may_throw ends))
    one_value (value_row found' d e s w g u) (last_throw rows row found ends h whole goes only) =
        absurd (one_kind hir is_may_throw _ found' (nested_never_throws d) found (ap is_may_throw ends))
    one_value (may_throw found ends h more later w) (value_row found' d e s w' g u) =
        absurd (one_kind hir is_may_throw _ found' (nested_never_throws d) found (ap is_may_throw ends))
    one_value (value_row found' d e s w' g u) (may_throw found ends h more later w) =
        absurd (one_kind hir is_may_throw _ found' (nested_never_throws d) found (ap is_may_throw ends))
    one_value {context = context}
        (value_row {block = block} {nested = n} {value = v} {behind = b} {left = l} found d e s w
        g u) (value_row {block = other} {nested = m} {value = v'} {behind = b'} {left = l'} {nested_used = x} found' d'
        e'
        s' w' g' u') =
        let same : other ≡ block = one_held found found' in
        let row = one_nested d
        (subst (λ (b : Block). SpellsNested hir env context.handler b.terminal m x) same d') in
        let back : m ≡ n = sym row.0 in
        let value = one_value e (value_at (ap (λ (n : Nested). n.fallthrough) back) e') in
        let arm = one_short_arm s (arm_at context.is_test back (sym value.0) (sym value.1) s') in
        (cc, cc, cc)

    pub one_nested : {handler : Option BlockId} {terminal : Terminal} {n m : Nested} {a b : List BlockId}
        → SpellsNested hir env handler terminal n a → SpellsNested hir env handler terminal m b → (n ≡ m) × (a ≡ b)
    one_nested (sequence_value d g) (sequence_value d' g') =
        let h = one_value d d' in (cc, h.2)
    one_nested (ternary_value test choice d g x y u) (ternary_value test' choice' d' g' x' y' u') =
        let h = one_value test test' in
        let arms = one_choice h.1 choice choice' in
        let k = one_value d (value_at (sym arms.0) d') in
        let l = one_value x (value_at (sym arms.1) x') in (cc, cc)
    one_nested (logical_value test choice d silent x y u) (logical_value test' choice' d' silent' x' y' u') =
        let h = one_value test test' in
        let arms = one_choice h.1 choice choice' in
        let k = one_value d (value_at (sym arms.0) d') in
        let l = one_value x (value_at (sym arms.1) x') in (cc, cc)
    one_nested (optional_value test choice shares d g u) (optional_value test' choice' shares' d' g' u') =
        let h = one_value test test' in
        let arms = one_choice h.1 choice choice' in
        let k = one_value d (value_at (sym arms.0) d') in (cc, cc)

  pub one_going : {flat : Bool} {key next : BlockId} {context : ValueContext} {v w : Value} {a b : List BlockId}
      → SpellsGoing hir env flat key context next v a → SpellsGoing hir env flat key context next w b
      → (v ≡ w) × (a ≡ b)
  one_going d d' =
      let h = one_value d.spelled d'.spelled in (cc, h.2)

  pub one_test : {flat : Bool} {key consequent alternate : BlockId} {context : ValueContext} {v w : Value}
      {a b : List BlockId} → SpellsTest hir env flat key context consequent alternate v a
      → SpellsTest hir env flat key context consequent alternate w b → (v ≡ w) × (a ≡ b)
  one_test d d' =
      let h = one_value d.spelled d'.spelled in (cc, h.2)
