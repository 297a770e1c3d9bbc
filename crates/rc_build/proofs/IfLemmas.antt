-- What an if is: its consequent, and its alternate or none.
use Rattle.std.proofs.Common.{◌≡◌, Bool, true, false, List, [], ◌∷◌, ◌++◌, Option, Some, None, refl, sym, ap, ◌∙◌}
use Rattle.std.proofs.Common.{subst, arith}
use Rattle.rc_names.specs.Numbers.{BlockId, EvaluationOrder, same_id}
use Rattle.rc_names.specs.declared.span.Span.{Span}
use Rattle.rc_hir.specs.Model.{Place}
use Rattle.rc_hir.specs.declared.terminal.Terminal.TheVariants as terminals
use Rattle.rc_tree.specs.Model.{ReactiveBlock, ReactiveStatement, ReactiveLabel}
use Rattle.rc_tree.specs.declared.terminal.ReactiveTerminal.TheVariants as tree
use Rattle.rc_runs.specs.declared.frames.Frame.TheVariants as frame_kinds
use Rattle.rc_runs.specs.ListContext.{inside}
use Rattle.rc_runs.specs.PlainTree.{Statements, TerminalStatement, If, Alternate, Absent, Present}
use Rattle.rc_runs.specs.TreeOf.{statements_of, alternate_of}
use Rattle.rc_runs.specs.Fallthrough.{falls_to, label_of, opens_reachable}
use Rattle.rc_runs.specs.Grammar.{value_statement, SpellsList, SpellsStatement, SpellsTerminal, if_only, if_else}
use Rattle.rc_runs.specs.Grammar.{and_rest}
use Rattle.rc_runs.proofs.OneTree.{one_list, part_at}
use Rattle.rc_build.specs.inside.Setting.{Setting, label_at, open_block, part_setting, terminal_statement}
use Rattle.rc_build.specs.inside.Task.{Progress, FromBlock, FromTerminal, left, Spells, SpellsAlternate}
use Rattle.rc_build.specs.inside.Built.{BuiltPrefix, BuiltList, Refused, BuiltAlternate}
use Rattle.std.specs.Prelude.{◌&&◌, is_some, not}
use Rattle.std.proofs.lemmas.List.{append-nil}
use Rattle.rc_build.specs.inside.CanBuild.{AreMarked}
use Rattle.rc_build.proofs.BuiltLemmas.{marking_beside, marking_drop, marking_none, marking_then, refused_back}
use Rattle.rc_build.proofs.BuiltLemmas.{refused_front, statement_prefix, is_some-opened}
use Rattle.rc_build.proofs.StatementLemmas.{label_at-opened}

-- an if that falls elsewhere has no alternate, and any other one without an alternate falls to its fallthrough
pub elsewhere_parts : (same falls : Bool) → (same && not falls) ≡ true → (same ≡ true) × (falls ≡ false)
elsewhere_parts true false e = (refl, refl)
elsewhere_parts true true e = let bad : ⊥ = cc in absurd bad
elsewhere_parts false falls e = let bad : ⊥ = cc in absurd bad

falls_there : (same falls : Bool) → (same && not falls) ≡ false → same ≡ true → falls ≡ true
falls_there true true e s = refl
falls_there true false e s = let bad : ⊥ = cc in absurd bad
falls_there false falls e s = let bad : ⊥ = cc in absurd bad

-- an alternate that is the fallthrough is built without more
pub alternate_absent : (s : Setting) (alternate fallthrough : BlockId) {at : Progress}
    → same_id alternate fallthrough ≡ true → AreMarked s.hir at.marks
    → BuiltAlternate s alternate fallthrough None at at
alternate_absent s alternate fallthrough {at = at} e m = record {
  value = Absent;
  newly = [];
  is = refl;
  spelled = (e, refl);
  marking = marking_drop s.hir (λ key. omega arith) (marking_none s.hir (alternate ∷ []) at.marks m);
  kept = refl;
}

-- any other alternate is the list from it on
pub alternate_present : {s : Setting} {alternate : BlockId} (fallthrough : BlockId) {list : List ReactiveStatement}
    {old new : Progress} → same_id alternate fallthrough ≡ false → BuiltList s alternate list old new
    → BuiltAlternate s alternate fallthrough (Some (record { statements = list })) old new
alternate_present fallthrough e b = record {
  value = Present b.value;
  newly = b.newly;
  is = ap (λ z. Some (record { statements = z })) b.is;
  spelled = (e, b.spelled);
  marking = b.marking;
  kept = b.kept;
}

pub alternate_refused : {s : Setting} {alternate : BlockId} (fallthrough : BlockId) (used : List BlockId)
    → same_id alternate fallthrough ≡ false → Refused s.hir (Spells s (FromBlock alternate)) used
    → Refused s.hir (SpellsAlternate s alternate fallthrough) used
alternate_refused fallthrough used e none Absent blocks d sound = let same = d.0 in let bad : ⊥ = cc in bad
alternate_refused fallthrough used e none (Present statements) blocks d sound = none statements blocks d.1 sound

-- the setting of the parts of an if
abbrev inner : Option BlockId → BlockId → Setting → Setting
inner at fallthrough s = part_setting at (frame_kinds.Statement fallthrough) s

-- the parts of an if that is spelled
record IfParts (s : Setting) (consequent alternate fallthrough : BlockId) (used : List BlockId) : Type 0 where
  taken : Statements
  arm : Alternate
  taken_used : List BlockId
  arm_used : List BlockId
  rest_used : List BlockId
  taken_spelled : Spells s (FromBlock consequent) taken taken_used
  arm_spelled : SpellsAlternate s alternate fallthrough arm arm_used
  parts : used ≡ (taken_used ++ arm_used) ++ rest_used

-- a part of an if, as the builder asks for it
into_inner : (s : Setting) (at : Option BlockId) (fallthrough part : BlockId) (is_open : Bool) {statements : Statements}
    {used : List BlockId} → at ≡ open_block (opens_reachable s.hir s.context.frames fallthrough) fallthrough
    → is_open ≡ opens_reachable s.hir s.context.frames fallthrough
    → SpellsList s.hir s.env part (inside is_open (frame_kinds.Statement fallthrough) s.context) statements used
    → Spells (inner at fallthrough s) (FromBlock part) statements used
into_inner s at fallthrough part is_open opened i d = part_at (frame_kinds.Statement fallthrough) s.context (is_some at)
    is_open (i ∙ sym (is_some-opened _ fallthrough opened)) d

module _ {s : Setting} {at : Option BlockId} {test : Place} {consequent alternate fallthrough : BlockId}
    {id : EvaluationOrder} {span : Option Span}
    (opened : at ≡ open_block (opens_reachable s.hir s.context.frames fallthrough) fallthrough) where
  if_parts : {all : Statements} {used : List BlockId}
      → SpellsTerminal s.hir s.env (terminals.If test consequent alternate fallthrough id span) s.context all used
      → IfParts (inner at fallthrough s) consequent alternate fallthrough used
  if_parts (and_rest (value_statement i j n a u) r w) = elim n [ ]
  if_parts (and_rest {part_used = front} {rest_used = back} (if_only {opened = p} {part = part} i l x y d) r w) =
      record {
        taken = part;
        arm = Absent;
        taken_used = front;
        arm_used = [];
        rest_used = back;
        taken_spelled = into_inner s at fallthrough consequent p opened i d;
        arm_spelled = (x, refl);
        parts = w ∙ ap (λ z. z ++ back) (sym (append-nil front));
      }
  if_parts (and_rest {rest_used = back} (if_else {opened = p} {part = part} {other = other} {part_used = first}
      {other_used = second} i l x d b q) r w) =
      record {
        taken = part;
        arm = Present other;
        taken_used = first;
        arm_used = second;
        rest_used = back;
        taken_spelled = into_inner s at fallthrough consequent p opened i d;
        arm_spelled = (x, into_inner s at fallthrough alternate p opened i b);
        parts = w ∙ ap (λ z. z ++ back) q;
      }

  -- an if is spelled where its parts are
  if_spelled : {taken : Statements} (arm : Alternate) {front : List BlockId} (back : List BlockId)
      → (same_id alternate fallthrough ≡ true → falls_to (is_some at) fallthrough s.context.next ≡ true)
      → Spells (inner at fallthrough s) (FromBlock consequent) taken front
      → SpellsAlternate (inner at fallthrough s) alternate fallthrough arm back
      → SpellsStatement s.hir s.env (terminals.If test consequent alternate fallthrough id span) s.context (is_some at)
      fallthrough (TerminalStatement (If test taken arm id) (label_of (is_some at) fallthrough)) (front ++ back)
  if_spelled {taken} Absent {front} back falls d arm =
      subst (SpellsStatement s.hir s.env (terminals.If test consequent alternate fallthrough id span) s.context
      (is_some at) fallthrough (TerminalStatement (If test taken Absent id) (label_of (is_some at) fallthrough)))
      (sym (append-nil front) ∙ ap (λ z. front ++ z) (sym arm.1)) (if_only (is_some-opened _ fallthrough opened) refl arm.0 (falls arm.0) d)
  if_spelled (Present other) back falls d arm = if_else (is_some-opened _ fallthrough opened) refl arm.0 d arm.1 refl

  -- once its parts are built and its statement is appended, the if is built
  pub if_built : {list : List ReactiveStatement} {block : Option ReactiveBlock} {statement : ReactiveStatement}
      {old mid last : Progress} {whole : List ReactiveStatement}
      → (same_id alternate fallthrough && not (falls_to (is_some at) fallthrough s.context.next)) ≡ false
      → BuiltList (inner at fallthrough s) consequent list old mid
      → BuiltAlternate (inner at fallthrough s) alternate fallthrough block mid last
      → statement ≡ terminal_statement (tree.If test (record { statements = list }) block id) (label_at at)
      → whole ≡ last.out ++ statement ∷ []
      → BuiltPrefix s (FromTerminal (terminals.If test consequent alternate fallthrough id span)) (left at) old
      (record { marks = last.marks; out = whole })
  if_built {list} {block} {statement} {old} {mid} {last} {whole} there b d st w =
      statement_prefix (opens_reachable s.hir s.context.frames fallthrough) opened
      (if_spelled d.value d.newly (falls_there _ _ there) b.spelled d.spelled) put
      (marking_then s.hir (marking_beside s.hir b.marking) (marking_beside s.hir d.marking))
    where
      branched : List ReactiveStatement → Option ReactiveBlock → Option ReactiveLabel → ReactiveStatement
      branched x y l = terminal_statement (tree.If test (record { statements = x }) y id) l

      put : whole ≡ old.out
          ++ branched (statements_of b.value) (alternate_of d.value) (label_of (is_some at) fallthrough) ∷ []
      put = w ∙ ap (λ z. z ++ statement ∷ []) (d.kept ∙ b.kept) ∙ ap (λ z. old.out ++ z ∷ [])
          (st ∙ ap (λ z. branched z block (label_at at)) b.is ∙ ap (λ z. branched (statements_of b.value) z (label_at at)) d.is
          ∙ ap (branched (statements_of b.value) (alternate_of d.value)) (label_at-opened _ fallthrough opened))

  -- an if whose consequent is refused is refused
  pub if_refused : (used : List BlockId) → Refused s.hir (Spells (inner at fallthrough s) (FromBlock consequent)) used
      → Refused s.hir (Spells s (FromTerminal (terminals.If test consequent alternate fallthrough id span))) used
  if_refused used none all blocks d sound =
      let p = if_parts d in
      none p.taken p.taken_used p.taken_spelled (refused_front s.hir used p.taken_used p.arm_used
      (refused_front s.hir used (p.taken_used ++ p.arm_used) p.rest_used sound p.parts) refl)

  -- so is one whose alternate is refused after its consequent
  pub if_refused_later : {list : List ReactiveStatement} {old mid : Progress}
      → BuiltList (inner at fallthrough s) consequent list old mid
      → Refused s.hir (SpellsAlternate (inner at fallthrough s) alternate fallthrough) mid.marks.used
      → Refused s.hir (Spells s (FromTerminal (terminals.If test consequent alternate fallthrough id span)))
      old.marks.used
  if_refused_later {old = old} b none all blocks d sound =
      let p = if_parts d in
      none p.arm p.arm_used p.arm_spelled (refused_back s.hir old.marks.used b.newly p.arm_used
      (refused_front s.hir old.marks.used (p.taken_used ++ p.arm_used) p.rest_used sound p.parts)
      (ap (λ z. z ++ p.arm_used) (one_list p.taken_spelled b.spelled).1) b.marking.used)

  -- an if without an alternate that falls elsewhere is refused
  pub if_elsewhere : (used : List BlockId) → same_id alternate fallthrough ≡ true
      → falls_to (is_some at) fallthrough s.context.next ≡ false
      → Refused s.hir (Spells s (FromTerminal (terminals.If test consequent alternate fallthrough id span))) used
  if_elsewhere used same shut all blocks (and_rest (if_only i l x y d) r w) sound =
      let falls = subst (λ b. falls_to b fallthrough s.context.next ≡ true) (i ∙ sym (is_some-opened _ fallthrough opened)) y in
      let bad : ⊥ = cc in bad
  if_elsewhere used same shut all blocks (and_rest (if_else i l x d b q) r w) sound = let bad : ⊥ = cc in bad
  if_elsewhere used same shut all blocks (and_rest (value_statement i j n a u) r w) sound = elim n [ ]
