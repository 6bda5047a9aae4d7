use Rattle.std.proofs.Common.{ap, ◌∙◌, length}
use Rattle.tables.specs.Lent.{read_of}
use Rattle.derivations.specs.Shown.{beside}
use Rattle.derivations.proofs.CodeLaws.{clear_unmarked, unmarked_clear, unmapped_copy, expansion_is, no_expansion}
use Rattle.derivations.proofs.judging.expansion_broken.Goals as goal

pub returns-then-not-all_mapped : goal.returns-then-not-all_mapped
returns-then-not-all_mapped c = λ marks w h s.
    let u = beside w c.args.starts.now c.args.noted.now w.indexes c.args.seen.now in
    (unmapped_copy _ _ (read_of c.args.tables marks) u c.pending.ensures.left c.all_mapped.ensures c.if-not-all_mapped.true, s)

pub returns-then-not-expands_named : goal.returns-then-not-expands_named
returns-then-not-expands_named c = λ marks w h s.
    let n = c.new-least.ensures in
    let v = c.of-view.ensures in
    let u = beside w c.args.starts.now c.args.noted.now w.indexes c.args.seen.now in
    let x = c.expands_named.ensures.answer (rw (n.now.0, n.now.1) (clear_unmarked s, h, n.none)) in (
      no_expansion _ _ (read_of c.args.tables marks) u c.pending.ensures.left c.all_mapped.ensures c.if-not-all_mapped.false c.written.ensures
          c.of-view.result v.prefix v.values v.map v.proof v.line x.0 c.if-not-expands_named.true,
      unmarked_clear (c.expands_named.ensures.lent.2 ∙ ap length n.now.0) s x.1.0,
    )

pub returns : goal.returns
returns c = λ marks w h s.
    let n = c.new-least.ensures in
    let v = c.of-view.ensures in
    let u = beside w c.args.starts.now c.args.noted.now w.indexes c.args.seen.now in
    let x = c.expands_named.ensures.answer (rw (n.now.0, n.now.1) (clear_unmarked s, h, n.none)) in (
      expansion_is _ _ (read_of c.args.tables marks) u c.pending.ensures.left c.all_mapped.ensures c.if-not-all_mapped.false c.written.ensures
          c.of-view.result v.prefix v.values v.map v.proof v.line x.0 c.if-not-expands_named.false,
      unmarked_clear (c.expands_named.ensures.lent.2 ∙ ap length n.now.0) s x.1.0,
    )
