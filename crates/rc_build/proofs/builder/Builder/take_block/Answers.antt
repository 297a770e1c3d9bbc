use Rattle.std.proofs.Common.{◌≡◌, Err, [], ◌∷◌, refl, sym, ap, ◌∙◌, arith}
use Rattle.rc_hir.specs.declared.fault.Rule.TheVariants as rules
use Rattle.rc_build.specs.inside.CanBuild.{pending_blocks}
use Rattle.rc_build.specs.inside.Setting.{setting_of}
use Rattle.rc_build.proofs.BuildsLemmas.{breaks_rule, fails, is_built, passes_on}
use Rattle.rc_build.proofs.BuiltLemmas.{block_prefix, block_refused}
use Rattle.rc_build.proofs.ListLemmas.{used_longer}
use Rattle.rc_build.proofs.MarksLemmas.{referenced_once}
use Rattle.rc_build.proofs.UsableLemmas.{usable_made, usable_ids}
use Rattle.rc_build.proofs.TakenLemmas.{twice_target}
use Rattle.rc_build.proofs.WalkLemmas.{at_terminal, list_alone}
use Rattle.rc_build.proofs.builder.Builder.take_block.Goals as goal

pub find_block-requires : goal.find_block-requires
find_block-requires c = referenced_once c.args.self.now.hir.now c.args.self.now.marks.used c.args.site.block
    (pending_blocks c.args.self.now.frames) c.requires.referenced

pub returns-in_err-found : goal.returns-in_err-found
returns-in_err-found c =
    let builder = c.args.self.now in
    fails c.from_residual.ensures.1 c.in_err-found.ensures.facts (λ named rule e.
    block_refused {s = setting_of builder c.args.site} c.args.site.block builder.marks
    (λ whole u l s. let none = c.in_err-found.ensures.refused in let bad : ⊥ = cc in bad))

pub returns-then-is_jump_target_at : goal.returns-then-is_jump_target_at
returns-then-is_jump_target_at c =
    let builder = c.args.self.now in
    let key = c.args.site.block in
    let target = sym c.is_jump_target_at.ensures ∙ c.if-is_jump_target_at.true in
    breaks_rule key rules.Twice c.malformed.ensures
    (block_refused {s = setting_of builder c.args.site} key builder.marks
    (λ whole u l s. let bad : ⊥ = cc in bad))
    (twice_target builder.hir.now builder.marks builder.frames key c.in_ok-found.found.block.now c.requires
    c.in_ok-found.ensures.found target)

pub returns-in_err-put_rows : goal.returns-in_err-put_rows
returns-in_err-put_rows c =
    let builder = c.args.self.now in
    let key = c.args.site.block in
    fails c.from_residual-in_err-put_rows.ensures.1 c.in_err-put_rows.ensures.facts (λ named rule e.
    block_refused {s = setting_of builder c.args.site} key builder.marks (λ whole u l s.
    c.in_err-put_rows.ensures.refused named rule (ap Err e)
    (usable_ids builder.hir.now key c.in_ok-found.found.block.now whole c.in_ok-found.ensures.found u)))

pub mark_block-requires-clause-can : goal.mark_block-requires-clause-can
mark_block-requires-clause-can c =
    let rows = c.in_ok-put_rows.ensures.ok in
    record {
      can = list_alone c.args.self.now.hir.now c.requires;
      found = c.in_ok-found.ensures.found;
      ids = record { rows = rows.rows; filled = rows.filled; set = rows.set };
    }

pub returns-in_err-mark_block : goal.returns-in_err-mark_block
returns-in_err-mark_block c =
    let builder = c.args.self.now in
    let key = c.args.site.block in
    passes_on c.from_residual-in_err-mark_block.ensures.1 refl (c.in_err-mark_block.ensures c.args.site)
    (λ none. block_refused {s = setting_of builder c.args.site} key builder.marks (λ whole u l s. none whole u refl s))

pub returns : goal.returns
returns c =
    let builder = c.args.self.now in
    let key = c.args.site.block in
    let block = c.in_ok-found.found.block.now in
    let found = c.in_ok-found.ensures.found in
    let rows = c.in_ok-put_rows.ensures.ok in
    let marked = c.in_ok-mark_block.ensures c.args.site in
    let marking = marked.ok.marking in
    is_built _ (record {
      rows = block_prefix {s = setting_of builder c.args.site} key block rows.rows
          (usable_made builder.hir.now key block rows.rows found c.in_ok-found.ensures.own rows.filled rows.set)
          (sym c.is_jump_target_at.ensures ∙ c.if-is_jump_target_at.false) (marked.ok.kept ∙ rows.put) marking;
      ready = at_terminal builder.hir.now c.requires found marking;
      more = let longer = used_longer marking in omega arith;
    }) marked.frames
