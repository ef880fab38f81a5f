use Rattle.std.proofs.Common.{sym, ◌∙◌}
use Rattle.twin_value.proofs.Dollar.{by_word, by_later}
use Rattle.twin_value.proofs.contents.link_role.Goals as goal

pub returns-then-eq : goal.returns-then-eq
returns-then-eq c =
    by_word _ _ _ (sym c.eq.ensures ∙ c.if-eq.true)

pub returns-then-eq-2 : goal.returns-then-eq-2
returns-then-eq-2 c =
    by_later _ _ _ _ (sym c.eq.ensures ∙ c.if-eq.false)
    (by_word _ _ _ (sym c.eq-then-begins_with_dollar.ensures ∙ c.if-eq-2.true))

pub returns-then-eq-3 : goal.returns-then-eq-3
returns-then-eq-3 c =
    by_later _ _ _ _ (sym c.eq.ensures ∙ c.if-eq.false)
    (by_later _ _ _ _ (sym c.eq-then-begins_with_dollar.ensures ∙ c.if-eq-2.false)
    (by_word _ _ _ (sym c.eq-then-begins_with_dollar-2.ensures ∙ c.if-eq-3.true)))

pub returns-then-eq-4 : goal.returns-then-eq-4
returns-then-eq-4 c =
    by_later _ _ _ _ (sym c.eq.ensures ∙ c.if-eq.false)
    (by_later _ _ _ _ (sym c.eq-then-begins_with_dollar.ensures ∙ c.if-eq-2.false)
    (by_later _ _ _ _ (sym c.eq-then-begins_with_dollar-2.ensures ∙ c.if-eq-3.false)
    (by_word _ _ _ (sym c.eq-then-begins_with_dollar-3.ensures ∙ c.if-eq-4.true))))

pub returns-then-eq-5 : goal.returns-then-eq-5
returns-then-eq-5 c =
    by_later _ _ _ _ (sym c.eq.ensures ∙ c.if-eq.false)
    (by_later _ _ _ _ (sym c.eq-then-begins_with_dollar.ensures ∙ c.if-eq-2.false)
    (by_later _ _ _ _ (sym c.eq-then-begins_with_dollar-2.ensures ∙ c.if-eq-3.false)
    (by_later _ _ _ _ (sym c.eq-then-begins_with_dollar-3.ensures ∙ c.if-eq-4.false)
    (by_word _ _ _ (sym c.eq-then-begins_with_dollar-4.ensures ∙ c.if-eq-5.true)))))

pub returns-then-eq-6 : goal.returns-then-eq-6
returns-then-eq-6 c =
    by_later _ _ _ _ (sym c.eq.ensures ∙ c.if-eq.false)
    (by_later _ _ _ _ (sym c.eq-then-begins_with_dollar.ensures ∙ c.if-eq-2.false)
    (by_later _ _ _ _ (sym c.eq-then-begins_with_dollar-2.ensures ∙ c.if-eq-3.false)
    (by_later _ _ _ _ (sym c.eq-then-begins_with_dollar-3.ensures ∙ c.if-eq-4.false)
    (by_later _ _ _ _ (sym c.eq-then-begins_with_dollar-4.ensures ∙ c.if-eq-5.false)
    (by_word _ _ _ (sym c.eq-then-begins_with_dollar-5.ensures ∙ c.if-eq-6.true))))))
