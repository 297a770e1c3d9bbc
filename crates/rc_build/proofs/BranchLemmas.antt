-- What a branch in a list is: its consequent, which may be a break, and its alternate.
use Rattle.std.proofs.Common.{◌≡◌, true, false, List, [], ◌∷◌, ◌++◌, Option, Some, None, refl, sym, ap, ◌∙◌}
use Rattle.std.proofs.Common.{subst, arith, inl, inr}
use Rattle.rc_names.specs.Numbers.{BlockId, EvaluationOrder}
use Rattle.rc_names.specs.declared.span.Span.{Span}
use Rattle.rc_hir.specs.Model.{Place, HirFunction}
use Rattle.rc_hir.specs.declared.terminal.Terminal.TheVariants as terminals
use Rattle.rc_tree.specs.Model.{ReactiveStatement}
use Rattle.rc_tree.specs.declared.terminal.ReactiveTerminal.TheVariants as tree
use Rattle.rc_runs.specs.declared.frames.Frame.{Frame}
use Rattle.rc_runs.specs.Frames.{is_jump_target, resolve_break}
use Rattle.rc_runs.specs.PlainTree.{Statements, If, Present}
use Rattle.rc_runs.specs.TreeOf.{statements_of}
use Rattle.rc_runs.specs.SimpleStatements.{break_statements, unlabeled}
use Rattle.rc_runs.specs.Grammar.{value_statement, SpellsList, SpellsTerminal, and_rest, branch_arms, branch_break}
use Rattle.rc_runs.specs.Grammar.{from_block}
use Rattle.rc_runs.proofs.OneTree.{one_list}
use Rattle.rc_build.specs.declared.builder.Marks.{Marks}
use Rattle.rc_build.specs.TerminalForms.{first_arm}
use Rattle.rc_build.specs.BlockFacts.{BlockIs}
use Rattle.rc_build.specs.RuleFacts.{IsLostJump}
use Rattle.rc_build.specs.inside.CanBuild.{AreMarked, CanBreak, CanBuildTerminal}
use Rattle.rc_build.specs.inside.Setting.{Setting, terminal_statement}
use Rattle.rc_build.specs.inside.Task.{FromBlock, FromTerminal, Nothing, Progress, Spells, SpellsConsequent}
use Rattle.rc_build.specs.inside.Built.{BuiltConsequent, BuiltList, BuiltPrefix, Refused}
use Rattle.rc_build.proofs.BuiltLemmas.{end_prefix, marking_beside, marking_drop, marking_none, marking_then}
use Rattle.rc_build.proofs.BuiltLemmas.{refused_back, refused_front}
use Rattle.rc_build.proofs.StatementLemmas.{target_apart}

-- a list in which a jump can name its block isn't spelled
no_target : {s : Setting} {key : BlockId} {list : Statements} {used : List BlockId}
    → is_jump_target s.context.frames key ≡ true → SpellsList s.hir s.env key s.context list used → ⊥
no_target target (from_block found apart d w) = let bad : ⊥ = cc in bad

module _ {s : Setting} (consequent : BlockId) (id : EvaluationOrder) where
  -- a consequent is spelled in one way
  one_consequent : {a b : Statements} {u v : List BlockId} → SpellsConsequent s consequent id a u
      → SpellsConsequent s consequent id b v → u ≡ v
  one_consequent (inl p) (inl q) = p.1 ∙ sym q.1
  one_consequent (inl p) (inr e) = absurd (no_target {s = s} p.0 e)
  one_consequent (inr d) (inl q) = absurd (no_target {s = s} q.0 d)
  one_consequent (inr d) (inr e) = (one_list d e).1

  -- a consequent that a jump can name is the break to it
  pub consequent_broken : {statements : Statements} {list outer kept : List ReactiveStatement} {old new : Marks}
      → is_jump_target s.context.frames consequent ≡ true
      → break_statements (resolve_break s.context.frames consequent) consequent id ≡ Some statements
      → list ≡ statements_of statements → new ≡ old → AreMarked s.hir old → kept ≡ outer
      → BuiltConsequent s consequent id list (record { marks = old; out = outer }) (record { marks = new; out = kept })
  consequent_broken {statements} {list} {outer} {kept} {old} target asked is same marked out =
      subst (λ (z : Marks). BuiltConsequent s consequent id list (record { marks = old; out = outer })
      (record { marks = z; out = kept })) (sym same) (record {
        value = statements;
        newly = [];
        is = is;
        spelled = inl (target, refl, asked);
        marking = marking_drop s.hir (λ key. omega arith) (marking_none s.hir (consequent ∷ []) old marked);
        kept = out;
      })

  pub consequent_lost : (used : List BlockId) → is_jump_target s.context.frames consequent ≡ true
      → break_statements (resolve_break s.context.frames consequent) consequent id ≡ None
      → Refused s.hir (SpellsConsequent s consequent id) used
  consequent_lost used target none all blocks (inl p) sound = let some = p.2 in let bad : ⊥ = cc in bad
  consequent_lost used target none all blocks (inr d) sound = no_target {s = s} target d

  -- any other one is the list from it on
  pub consequent_list : {list : List ReactiveStatement} {old new : Progress} → BuiltList s consequent list old new
      → BuiltConsequent s consequent id list old new
  consequent_list b = record {
    value = b.value;
    newly = b.newly;
    is = b.is;
    spelled = inr b.spelled;
    marking = b.marking;
    kept = b.kept;
  }

  pub consequent_refused : (used : List BlockId) → is_jump_target s.context.frames consequent ≡ false
      → Refused s.hir (Spells s (FromBlock consequent)) used → Refused s.hir (SpellsConsequent s consequent id) used
  consequent_refused used apart none all blocks (inl p) sound = let target = p.0 in let bad : ⊥ = cc in bad
  consequent_refused used apart none all blocks (inr d) sound = none all blocks d sound

-- the parts of a branch that is spelled
record BranchParts (s : Setting) (consequent alternate : BlockId) (id : EvaluationOrder) (used : List BlockId) :
    Type 0 where
  part : Statements
  other : Statements
  part_used : List BlockId
  other_used : List BlockId
  part_spelled : SpellsConsequent s consequent id part part_used
  other_spelled : SpellsList s.hir s.env alternate s.context other other_used
  parts : used ≡ part_used ++ other_used

module _ {s : Setting} {test : Place} {consequent alternate : BlockId} {id : EvaluationOrder} {span : Option Span} where
  branch_parts : {all : Statements} {used : List BlockId}
      → SpellsTerminal s.hir s.env (terminals.Branch test consequent alternate id span) s.context all used
      → BranchParts s consequent alternate id used
  branch_parts (branch_arms {part = part} {other = other} {part_used = front} {other_used = back} d e w) = record {
    part = part;
    other = other;
    part_used = front;
    other_used = back;
    part_spelled = inr d;
    other_spelled = e;
    parts = w;
  }
  branch_parts (branch_break {part = part} {other = other} {used = back} l b e) = record {
    part = part;
    other = other;
    part_used = [];
    other_used = back;
    part_spelled = inl (l, refl, b);
    other_spelled = e;
    parts = refl;
  }
  branch_parts (and_rest (value_statement i j n a u) r w) = elim n [ ]

  branch_spelled : {part other : Statements} {front back : List BlockId} → SpellsConsequent s consequent id part front
      → SpellsList s.hir s.env alternate s.context other back
      → SpellsTerminal s.hir s.env (terminals.Branch test consequent alternate id span) s.context
      (unlabeled (If test part (Present other) id)) (front ++ back)
  branch_spelled {part} {other} {back = back} (inl p) e =
      subst (λ z. SpellsTerminal s.hir s.env (terminals.Branch test consequent alternate id span) s.context
      (unlabeled (If test part (Present other) id)) (z ++ back)) (sym p.1) (branch_break p.0 p.2 e)
  branch_spelled (inr d) e = branch_arms d e refl

  -- once its parts are built and its statement is appended, the branch is built
  pub branch_built : {list others : List ReactiveStatement} {statement : ReactiveStatement} {old mid last : Progress}
      {whole : List ReactiveStatement} → BuiltConsequent s consequent id list old mid
      → BuiltList s alternate others mid last
      → statement ≡ terminal_statement (tree.If test (record { statements = list })
      (Some (record { statements = others })) id) None
      → whole ≡ last.out ++ statement ∷ []
      → BuiltPrefix s (FromTerminal (terminals.Branch test consequent alternate id span)) Nothing old
      (record { marks = last.marks; out = whole })
  branch_built {list} {others} {statement} {old} {mid} {last} {whole} b d st w =
      end_prefix (terminals.Branch test consequent alternate id span) (unlabeled (If test b.value (Present d.value) id))
      put (branch_spelled b.spelled d.spelled) (marking_then s.hir (marking_beside s.hir b.marking) d.marking)
    where
      branched : List ReactiveStatement → List ReactiveStatement → ReactiveStatement
      branched x y = terminal_statement (tree.If test (record { statements = x }) (Some (record { statements = y })) id)
          None

      put : whole ≡ old.out ++ branched (statements_of b.value) (statements_of d.value) ∷ []
      put = w ∙ ap (λ z. z ++ statement ∷ []) (d.kept ∙ b.kept) ∙ ap (λ z. old.out ++ z ∷ [])
          (st ∙ ap (λ z. branched z others) b.is ∙ ap (branched (statements_of b.value)) d.is)

  -- a branch whose consequent is refused is refused
  pub branch_refused : (used : List BlockId) → Refused s.hir (SpellsConsequent s consequent id) used
      → Refused s.hir (Spells s (FromTerminal (terminals.Branch test consequent alternate id span))) used
  branch_refused used none all blocks d sound =
      let p = branch_parts d in
      none p.part p.part_used p.part_spelled (refused_front s.hir used p.part_used p.other_used sound p.parts)

  -- so is one whose alternate is refused after its consequent
  pub branch_refused_later : {list : List ReactiveStatement} {old mid : Progress}
      → BuiltConsequent s consequent id list old mid → Refused s.hir (Spells s (FromBlock alternate)) mid.marks.used
      → Refused s.hir (Spells s (FromTerminal (terminals.Branch test consequent alternate id span))) old.marks.used
  branch_refused_later {old = old} b none all blocks d sound =
      let p = branch_parts d in
      none p.other p.other_used p.other_spelled (refused_back s.hir old.marks.used b.newly p.other_used sound
      (p.parts ∙ ap (λ z. z ++ p.other_used) (one_consequent consequent id p.part_spelled b.spelled)) b.marking.used)

  -- and one whose alternate a jump can name
  pub branch_lost : (used : List BlockId) → is_jump_target s.context.frames alternate ≡ true
      → Refused s.hir (Spells s (FromTerminal (terminals.Branch test consequent alternate id span))) used
  branch_lost used target all blocks d sound =
      let p = branch_parts d in no_target {s = s} target p.other_spelled

module _ {hir : HirFunction} {marks : Marks} {handler : Option BlockId} {frames : List Frame} {key : BlockId}
    {test : Place}
    {consequent alternate : BlockId} {id : EvaluationOrder} {span : Option Span}
    (can : CanBuildTerminal hir marks handler frames key (terminals.Branch test consequent alternate id span)) where
  -- a block that ends in a branch can break to a consequent that a jump can name
  pub branch_can : is_jump_target frames consequent ≡ true
      → CanBreak hir marks frames key (terminals.Branch test consequent alternate id span) consequent
  branch_can target = record { handler = handler; can = can; jumps = first_arm; lost = inl (target_apart can target) }

  -- an alternate that a jump can name
  pub alternate_lost : is_jump_target frames alternate ≡ true
      → BlockIs hir key (λ block. IsLostJump hir key block.terminal)
  alternate_lost target = record {
    block = can.here.block;
    found = can.here.found;
    holds = subst (IsLostJump hir key) (sym can.here.holds) (inr (target_apart can target));
  }
