use Rattle.std.proofs.Common.{◌≡◌, sym, ◌∙◌, Err, rules, arith}
use Rattle.rules.proofs.RuleLaws.{number_not_zero}
use Rattle.mapping.specs.MappingLine.{lent}
use Rattle.mapping.proofs.RuleLaws.{mapping_told, mapping_lost, lists_long}
use Rattle.mapping.proofs.LineLaws.{line_malformed, line_late, line_high, line_long, line_wide, line_passed, line_taken, line_unfit, line_stored, line_good}
use Rattle.mapping.proofs.mapping_line.Goals as goal
use Rattle.mapping.proofs.mapping_line.Goals.{then-map-used-via-then-map-used, then-map-used-via-else-map-used+then-values-largest}

pub returns-in_err-lists : goal.returns-in_err-lists
returns-in_err-lists c =
    let h = mapping_lost _ _ c.mapping_at.ensures (sym c.ok_or.ensures.value ∙ c.in_err-lists.was) in
    let r : c.from_residual.result ≡ Err c.in_err-lists.field-0.0 = search rules in
    rw (r, h.0) (line_malformed _ _ _ _ _ _ _ h.1)

pub overflow_mul-used : goal.overflow_mul-used
overflow_mul-used c =
    let o = mapping_told _ _ c.mapping_at.ensures (sym c.ok_or.ensures.value ∙ c.in_ok-lists.was) in
    omega (arith, lists_long o, c.well_formed.0)

pub overflow_add-used : goal.overflow_add-used
overflow_add-used c =
    let o = mapping_told _ _ c.mapping_at.ensures (sym c.ok_or.ensures.value ∙ c.in_ok-lists.was) in
    omega (arith, lists_long o, c.well_formed.0)

pub overflow_add-used-2 : goal.overflow_add-used-2
overflow_add-used-2 c =
    let o = mapping_told _ _ c.mapping_at.ensures (sym c.ok_or.ensures.value ∙ c.in_ok-lists.was) in
    omega (arith, lists_long o, c.well_formed.0)

pub overflow_add-used-3 : goal.overflow_add-used-3
overflow_add-used-3 c =
    let o = mapping_told _ _ c.mapping_at.ensures (sym c.ok_or.ensures.value ∙ c.in_ok-lists.was) in
    omega (arith, lists_long o, c.well_formed.0)

pub returns-then-not-in_turn : goal.returns-then-not-in_turn
returns-then-not-in_turn c = line_late (mapping_told _ _ c.mapping_at.ensures (sym c.ok_or.ensures.value ∙ c.in_ok-lists.was)) _ _ _ _ _ c.if-not-in_turn.true

pub returns-then-not-ranged : goal.returns-then-not-ranged
returns-then-not-ranged c =
    line_high (mapping_told _ _ c.mapping_at.ensures (sym c.ok_or.ensures.value ∙ c.in_ok-lists.was)) _ _ _ _ _ c.if-not-in_turn.false c.ranged.ensures c.if-not-ranged.true

pub returns-then-map-used : goal.returns-then-map-used
returns-then-map-used c =
    let o = mapping_told _ _ c.mapping_at.ensures (sym c.ok_or.ensures.value ∙ c.in_ok-lists.was) in
    elim c.then-map-used.branch [
      | then-map-used-via-then-map-used w ↦ line_long o _ _ _ _ _ c.if-not-in_turn.false c.ranged.ensures c.if-not-ranged.false w.if-map-used.true
      | then-map-used-via-else-map-used+then-values-largest w ↦
          line_wide o _ _ _ _ _ c.if-not-in_turn.false c.ranged.ensures c.if-not-ranged.false c.max-largest.ensures w.if-values-largest.true
    ]

pub returns-in_err-fresh : goal.returns-in_err-fresh
returns-in_err-fresh c =
    let o = mapping_told _ _ c.mapping_at.ensures (sym c.ok_or.ensures.value ∙ c.in_ok-lists.was) in
    let passed = line_passed o c.args.in_turn c.args.v c.args.state c.args.prefix.now (lent c.args.map.now c.args.values.now c.args.noted.now)
    c.if-not-in_turn.false c.ranged.ensures c.if-not-ranged.false c.max-largest.ensures c.if-map-used.false c.if-values-largest.false in
    let r : c.from_residual-in_err-fresh.result ≡ Err c.in_err-fresh.field-0.0 = search rules in
    rw r (line_taken o _ _ _ _ _ passed _ c.in_err-fresh.ensures)

pub returns-in_err-annotates : goal.returns-in_err-annotates
returns-in_err-annotates c =
    let o = mapping_told _ _ c.mapping_at.ensures (sym c.ok_or.ensures.value ∙ c.in_ok-lists.was) in
    let passed = line_passed o c.args.in_turn c.args.v c.args.state c.args.prefix.now (lent c.args.map.now c.args.values.now c.args.noted.now)
    c.if-not-in_turn.false c.ranged.ensures c.if-not-ranged.false c.max-largest.ensures c.if-map-used.false c.if-values-largest.false in
    let r : c.from_residual-in_err-annotates.result ≡ Err c.in_err-annotates.field-0.0 = search rules in
    rw r (line_unfit o _ _ _ _ _ passed c.in_ok-fresh.ensures _ c.in_err-annotates.ensures)

pub returns-in_err-store : goal.returns-in_err-store
returns-in_err-store c =
    let o = mapping_told _ _ c.mapping_at.ensures (sym c.ok_or.ensures.value ∙ c.in_ok-lists.was) in
    let passed = line_passed o c.args.in_turn c.args.v c.args.state c.args.prefix.now (lent c.args.map.now c.args.values.now c.args.noted.now)
    c.if-not-in_turn.false c.ranged.ensures c.if-not-ranged.false c.max-largest.ensures c.if-map-used.false c.if-values-largest.false in
    absurd (number_not_zero _ (line_stored o _ _ _ _ _ passed c.in_ok-fresh.ensures c.in_ok-annotates.ensures c.in_err-store.ensures.stores))

pub returns : goal.returns
returns c =
    let o = mapping_told _ _ c.mapping_at.ensures (sym c.ok_or.ensures.value ∙ c.in_ok-lists.was) in
    let passed = line_passed o c.args.in_turn c.args.v c.args.state c.args.prefix.now (lent c.args.map.now c.args.values.now c.args.noted.now)
    c.if-not-in_turn.false c.ranged.ensures c.if-not-ranged.false c.max-largest.ensures c.if-map-used.false c.if-values-largest.false in
    line_good o _ _ _ _ _ passed c.in_ok-fresh.ensures c.in_ok-annotates.ensures c.in_ok-store.ensures.stores c.max-largest.ensures c.store.auto.map c.store.auto.values
