-- What a statement with one part is, for labels and for the blocks of scopes, kept or pruned.
use Rattle.std.proofs.Common.{◌≡◌, Bool, List, [], ◌∷◌, ◌++◌, Option, refl, sym, ap, ◌∙◌, subst, arith}
use Rattle.std.specs.Prelude.{is_some}
use Rattle.rc_names.specs.Numbers.{BlockId, EvaluationOrder}
use Rattle.rc_names.specs.declared.span.Span.{Span}
use Rattle.rc_tree.specs.Model.{ReactiveStatement, ReactiveLabel}
use Rattle.rc_runs.specs.declared.frames.Frame.TheVariants as frame_kinds
use Rattle.rc_build.specs.declared.builder.Marks.{Marks}
use Rattle.rc_build.specs.declared.enclosures.Enclosure.{Enclosure}
use Rattle.rc_build.specs.declared.enclosures.Enclosure.TheVariants as enclosures
use Rattle.rc_runs.specs.ListContext.{inside}
use Rattle.rc_runs.specs.PlainTree.{Statements, Statement, TerminalStatement, ScopeStatement, PrunedScopeStatement}
use Rattle.rc_runs.specs.PlainTree.{Label}
use Rattle.rc_runs.specs.TreeOf.{statements_of, statement_of}
use Rattle.rc_runs.specs.Fallthrough.{label_of}
use Rattle.rc_runs.specs.Grammar.{value_statement, SpellsList, SpellsStatement, label_statement, scope_statement}
use Rattle.rc_runs.specs.Grammar.{pruned_scope_statement, and_rest}
use Rattle.rc_build.specs.References.{referenced_blocks}
use Rattle.rc_build.specs.inside.Marks.{MarksBlocks}
use Rattle.rc_build.specs.inside.CanBuild.{CanBuildList, CanBuildTerminal}
use Rattle.rc_build.specs.inside.Depths.{frames_inside}
use Rattle.rc_build.specs.inside.Enclosures.{frame_of, is_opened, statement_around, terminal_around}
use Rattle.rc_build.specs.inside.Setting.{Setting, label_at, open_block, part_setting}
use Rattle.rc_build.specs.inside.Task.{Progress, FromBlock, FromTerminal, left, Spells}
use Rattle.rc_build.specs.inside.Built.{BuiltPrefix, BuiltList, Refused}
use Rattle.rc_build.proofs.BuiltLemmas.{marking_beside, statement_prefix, is_some-opened, refused_front}
use Rattle.rc_build.proofs.LoopKindLemmas.{among_first}
use Rattle.rc_build.proofs.WalkLemmas.{at_first_part, none_used}
use Rattle.rc_build.proofs.StatementLemmas.{label_at-opened}
use Rattle.rc_hir.specs.Model.{HirFunction}
use Rattle.rc_runs.proofs.OneTree.{part_at}
use Rattle.rc_runs.specs.declared.frames.Frame.{Frame}

-- the statement, as plain data
abbrev plain_around : Enclosure → Statements → EvaluationOrder → Option ReactiveLabel → Statement
plain_around enclosures.Label part id mark = TerminalStatement (Label part id) mark
plain_around (enclosures.Scope number) part id mark = ScopeStatement number part
plain_around (enclosures.PrunedScope number) part id mark = PrunedScopeStatement number part

plain_around-tree : (e : Enclosure) (part : Statements) (id : EvaluationOrder) (mark : Option ReactiveLabel)
    → statement_around e (statements_of part) id mark ≡ statement_of (plain_around e part id mark)
plain_around-tree enclosures.Label part id mark = refl
plain_around-tree (enclosures.Scope number) part id mark = refl
plain_around-tree (enclosures.PrunedScope number) part id mark = refl

-- the terminal refers to its part and to its fallthrough
referenced_around : (e : Enclosure) (part fallthrough : BlockId) (id : EvaluationOrder) (span : Option Span)
    → referenced_blocks (terminal_around e part fallthrough id span) ≡ part ∷ fallthrough ∷ []
referenced_around enclosures.Label part fallthrough id span = refl
referenced_around (enclosures.Scope number) part fallthrough id span = refl
referenced_around (enclosures.PrunedScope number) part fallthrough id span = refl

-- the statement is spelled where its part is
spelled_around : {s : Setting} (e : Enclosure) (part fallthrough : BlockId) (id : EvaluationOrder) (span : Option Span)
    {is_open : Bool} {statements : Statements} {used : List BlockId}
    → is_open ≡ is_opened e s.hir s.context.frames fallthrough
    → SpellsList s.hir s.env part (inside is_open (frame_of e fallthrough) s.context) statements used
    → SpellsStatement s.hir s.env (terminal_around e part fallthrough id span) s.context is_open fallthrough
    (plain_around e statements id (label_of is_open fallthrough)) used
spelled_around enclosures.Label part fallthrough id span i d = label_statement i refl d
spelled_around (enclosures.Scope number) part fallthrough id span i d = scope_statement i d
spelled_around (enclosures.PrunedScope number) part fallthrough id span i d = pruned_scope_statement i d

-- a statement whose part is refused is refused
pub enclosure_refused : {s : Setting} {at : Option BlockId} (e : Enclosure) (part fallthrough : BlockId)
    (id : EvaluationOrder) (span : Option Span) (used : List BlockId)
    → at ≡ open_block (is_opened e s.hir s.context.frames fallthrough) fallthrough
    → Refused s.hir (Spells (part_setting at (frame_of e fallthrough) s) (FromBlock part)) used
    → Refused s.hir (Spells s (FromTerminal (terminal_around e part fallthrough id span))) used
enclosure_refused {s} {at} enclosures.Label part fallthrough id span used o none all blocks
    (and_rest {part_used = front} {rest_used = back} (label_statement {opened = p} {part = x} i l d) r w) sound =
    none x front (part_at (frame_kinds.Statement fallthrough) s.context (is_some at) p
    (i ∙ sym (is_some-opened _ fallthrough o)) d) (refused_front s.hir used front back sound w)
enclosure_refused {s} {at} (enclosures.Scope number) part fallthrough id span used o none all blocks
    (and_rest {part_used = front} {rest_used = back} (scope_statement {opened = p} {part = x} i d) r w) sound =
    none x front (part_at (frame_kinds.Scope fallthrough) s.context (is_some at) p
    (i ∙ sym (is_some-opened _ fallthrough o)) d) (refused_front s.hir used front back sound w)
enclosure_refused {s} {at} (enclosures.PrunedScope number) part fallthrough id span used o none all blocks
    (and_rest {part_used = front} {rest_used = back} (pruned_scope_statement {opened = p} {part = x} i d) r w) sound =
    none x front (part_at (frame_kinds.Scope fallthrough) s.context (is_some at) p
    (i ∙ sym (is_some-opened _ fallthrough o)) d) (refused_front s.hir used front back sound w)
enclosure_refused enclosures.Label part fallthrough id span used o none all blocks
    (and_rest (value_statement i j n a u) r w) sound = elim n [ ]
enclosure_refused (enclosures.Scope number) part fallthrough id span used o none all blocks
    (and_rest (value_statement i j n a u) r w) sound = elim n [ ]
enclosure_refused (enclosures.PrunedScope number) part fallthrough id span used o none all blocks
    (and_rest (value_statement i j n a u) r w) sound = elim n [ ]

-- the part can be built
pub enclosure_can : {hir : HirFunction} {marks : Marks} {handler : Option BlockId} {frames : List Frame}
    {key : BlockId} (at : Option BlockId)
    (e : Enclosure) (part fallthrough : BlockId) (id : EvaluationOrder) (span : Option Span)
    → CanBuildTerminal hir marks handler frames key (terminal_around e part fallthrough id span)
    → CanBuildList hir marks handler (frames_inside at (frame_of e fallthrough) frames) part
enclosure_can {hir} {marks} at enclosures.Label part fallthrough id span can =
    at_first_part hir (frame_kinds.Statement fallthrough) at can refl (none_used marks) (λ key. omega arith)
enclosure_can {hir} {marks} at (enclosures.Scope number) part fallthrough id span can =
    at_first_part hir (frame_kinds.Scope fallthrough) at can (among_first fallthrough []) (none_used marks) (λ key. omega arith)
enclosure_can {hir} {marks} at (enclosures.PrunedScope number) part fallthrough id span can =
    at_first_part hir (frame_kinds.Scope fallthrough) at can (among_first fallthrough []) (none_used marks) (λ key. omega arith)

-- once its part is built and it is appended, the statement is built
pub enclosure_built : {s : Setting} {at : Option BlockId} (e : Enclosure) (part fallthrough : BlockId)
    (id : EvaluationOrder) (span : Option Span) {list : List ReactiveStatement} {statement : ReactiveStatement}
    {old mid : Progress} {whole : List ReactiveStatement}
    → at ≡ open_block (is_opened e s.hir s.context.frames fallthrough) fallthrough
    → BuiltList (part_setting at (frame_of e fallthrough) s) part list old mid
    → statement ≡ statement_around e list id (label_at at) → whole ≡ mid.out ++ statement ∷ []
    → BuiltPrefix s (FromTerminal (terminal_around e part fallthrough id span)) (left at) old
    (record { marks = mid.marks; out = whole })
enclosure_built {s} {at} e part fallthrough id span {statement = statement} {old} {mid} {whole} o b st w =
    statement_prefix (is_opened e s.hir s.context.frames fallthrough) o
    (spelled_around {s = s} e part fallthrough id span (is_some-opened _ fallthrough o) b.spelled) put
    (subst (λ z. MarksBlocks s.hir z (fallthrough ∷ []) old.marks mid.marks b.newly)
    (sym (referenced_around e part fallthrough id span)) (marking_beside s.hir b.marking))
  where
    put : whole ≡ old.out ++ statement_of (plain_around e b.value id (label_of (is_some at) fallthrough)) ∷ []
    put = w ∙ ap (λ z. z ++ statement ∷ []) b.kept ∙ ap (λ z. old.out ++ z ∷ [])
        (st ∙ ap (λ z. statement_around e z id (label_at at)) b.is
        ∙ ap (statement_around e (statements_of b.value) id) (label_at-opened _ fallthrough o)
        ∙ plain_around-tree e b.value id (label_of (is_some at) fallthrough))
