use mathlib.Core.Path.{refl}
use borrow.Author.Tests.{not-true, not-false}
use Rattle.std.proofs.lemmas.Result.{err_from_is_err_and}
use Rattle.rules.proofs.RuleLaws.{asked_some, asked_none}
use Rattle.formula.proofs.ProblemLaws.{problem_missed, problem_first, problem_second, problem_long, problem_high, problem_many, problem_full, problem_done}
use Rattle.formula.proofs.problem_line.Goals as goal
use Rattle.formula.proofs.problem_line.Goals.{then-v-gt-HIGHEST-via-then-v-gt-HIGHEST, then-v-gt-HIGHEST-via-else-v-gt-HIGHEST+then-c-gt-MOST}

pub returns-in_err-e : goal.returns-in_err-e
returns-in_err-e c =
    let p = err_from_is_err_and c.from_residual.result c.from_residual.ensures.1 in
    let h = asked_none _ _ c.word_is.ensures c.ok_or.ensures.value c.in_err-e.was in
    λ m. rw (p.1, p.2, h.0) (problem_missed _ _ _ m h.1)

pub returns-in_err-v : goal.returns-in_err-v
returns-in_err-v c =
    let p = err_from_is_err_and c.from_residual-in_err-v.result c.from_residual-in_err-v.ensures.1 in
    let h = asked_none _ _ c.natural_at.ensures c.ok_or-2.ensures.value c.in_err-v.was in
    λ m. rw (p.1, p.2, h.0) (problem_first _ _ _ m (asked_some _ _ c.word_is.ensures c.ok_or.ensures.value c.in_ok-e.was) h.1)

pub returns-in_err-c : goal.returns-in_err-c
returns-in_err-c c =
    let p = err_from_is_err_and c.from_residual-in_err-c.result c.from_residual-in_err-c.ensures.1 in
    let h = asked_none _ _ c.natural_at-2.ensures c.ok_or-3.ensures.value c.in_err-c.was in
    λ m. rw (p.1, p.2, h.0) (problem_second _ _ _ m (asked_some _ _ c.word_is.ensures c.ok_or.ensures.value c.in_ok-e.was) (asked_some _ _ c.natural_at.ensures c.ok_or-2.ensures.value c.in_ok-v.was) h.1)

pub returns-then-not-ended : goal.returns-then-not-ended
returns-then-not-ended c = λ m. problem_long _ _ _ m (asked_some _ _ c.word_is.ensures c.ok_or.ensures.value c.in_ok-e.was) (asked_some _ _ c.natural_at.ensures c.ok_or-2.ensures.value c.in_ok-v.was) (asked_some _ _ c.natural_at-2.ensures c.ok_or-3.ensures.value c.in_ok-c.was) c.ended.ensures (not-true _ c.if-not-ended.true-raw)

pub returns-then-v-gt-HIGHEST : goal.returns-then-v-gt-HIGHEST
returns-then-v-gt-HIGHEST c = λ m. elim c.then-v-gt-HIGHEST.branch [
  | then-v-gt-HIGHEST-via-then-v-gt-HIGHEST w ↦ problem_high _ _ _ m (asked_some _ _ c.word_is.ensures c.ok_or.ensures.value c.in_ok-e.was) (asked_some _ _ c.natural_at.ensures c.ok_or-2.ensures.value c.in_ok-v.was) (asked_some _ _ c.natural_at-2.ensures c.ok_or-3.ensures.value c.in_ok-c.was) c.ended.ensures (not-false _ c.if-not-ended.false-raw) w.if-v-gt-HIGHEST.true
  | then-v-gt-HIGHEST-via-else-v-gt-HIGHEST+then-c-gt-MOST w ↦ problem_many _ _ _ m (asked_some _ _ c.word_is.ensures c.ok_or.ensures.value c.in_ok-e.was) (asked_some _ _ c.natural_at.ensures c.ok_or-2.ensures.value c.in_ok-v.was) (asked_some _ _ c.natural_at-2.ensures c.ok_or-3.ensures.value c.in_ok-c.was) c.ended.ensures (not-false _ c.if-not-ended.false-raw) w.if-v-gt-HIGHEST.false w.if-c-gt-MOST.true
]

pub returns-then-prefix-n : goal.returns-then-prefix-n
returns-then-prefix-n c = λ m. problem_full _ _ _ m (asked_some _ _ c.word_is.ensures c.ok_or.ensures.value c.in_ok-e.was) (asked_some _ _ c.natural_at.ensures c.ok_or-2.ensures.value c.in_ok-v.was) (asked_some _ _ c.natural_at-2.ensures c.ok_or-3.ensures.value c.in_ok-c.was) c.ended.ensures (not-false _ c.if-not-ended.false-raw) c.if-v-gt-HIGHEST.false c.if-c-gt-MOST.false refl c.if-prefix-n.true

pub returns : goal.returns
returns c = λ m. problem_done _ _ _ m (asked_some _ _ c.word_is.ensures c.ok_or.ensures.value c.in_ok-e.was) (asked_some _ _ c.natural_at.ensures c.ok_or-2.ensures.value c.in_ok-v.was) (asked_some _ _ c.natural_at-2.ensures c.ok_or-3.ensures.value c.in_ok-c.was) c.ended.ensures (not-false _ c.if-not-ended.false-raw) c.if-v-gt-HIGHEST.false c.if-c-gt-MOST.false refl c.if-prefix-n.false c.clear.ensures
