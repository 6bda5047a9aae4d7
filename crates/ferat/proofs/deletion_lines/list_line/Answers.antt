use native.Mathlib.Omega.{arith}
use mathlib.Core.Path.{ap, sym, ◌∙◌}
use Rattle.lines.specs.Scan.{literal_at}
use Rattle.lines.specs.Literals.{literals_line, literals_at}
use Rattle.lists.specs.Lists.{is_list}
use Rattle.lists.proofs.ListLaws.{is_lost, is_end, is_more}
use Rattle.ferat.proofs.DeletionLaws.{listing_start, listing_done, listing_next, line_end, line_more, not_ended, ending_by}
use Rattle.ferat.proofs.deletion_lines.list_line.Goals as goal

pub loop-x-init : goal.loop-x-init
loop-x-init c =
    let e = c.into_iter-x-iterator.ensures.into_iter_gives in
    let n = c.new-x-items.ensures in
    let p = ap literals_at e ∙ n.1 in
    record { line = ap literals_line e ∙ n.0; list = ap (is_list c.args.line.now) p; listed = λ h e. rw p (listing_start _ _ _ h e) }

pub returns : goal.returns
returns c =
    let i = c.loop-x.invariant in
    record {
      listed = λ h e q. absurd (not_ended q);
      ended = ending_by _ _ (sym i.list ∙ is_lost _ (literals_at c.loop-x.x-iterator) (ap (λ t. literal_at t (literals_at c.loop-x.x-iterator)) (sym i.line) ∙ c.in-None.ensures.steps.0));
    }

pub returns-then-x-eq0 : goal.returns-then-x-eq0
returns-then-x-eq0 c =
    let i = c.loop-x.invariant in
    let read = ap (λ t. literal_at t (literals_at c.loop-x.x-iterator)) (sym i.line) ∙ c.in-Some.ensures.steps.0 in
    record {
      listed = λ h e q. listing_done _ _ (i.listed h e) (line_end _ (literals_at c.loop-x.x-iterator) read c.if-x-eq0.true);
      ended = ending_by _ _ (sym i.list ∙ is_end _ (literals_at c.loop-x.x-iterator) read c.if-x-eq0.true);
    }

pub loop-x-preserved : goal.loop-x-preserved
loop-x-preserved c =
    let i = c.loop-x.invariant in
    let s = c.in-Some.ensures.steps in
    let read = ap (λ t. literal_at t (literals_at c.loop-x.x-iterator)) (sym i.line) ∙ s.0 in
    record {
      line = s.1 ∙ i.line;
      list = ap (is_list c.args.line.now) s.2 ∙ sym (is_more _ (literals_at c.loop-x.x-iterator) read c.if-x-eq0.false) ∙ i.list;
      listed = λ h e.
          let m = i.listed h e in
          let q = c.list_literal.ensures m.listed (omega arith) in
          rw s.2 (listing_next _ _ m (line_more _ (literals_at c.loop-x.x-iterator) read c.if-x-eq0.false) q.0 q.1);
    }
