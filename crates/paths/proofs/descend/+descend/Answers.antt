use Rattle.std.proofs.Common.{◌-◌, [], ◌∷◌, None, vec_items, refl, ap, ◌∙◌, arith}
use Rattle.std.specs.Option.{option_map}
use Rattle.std.proofs.lemmas.Bool.{cond_below, cond_above}
use Rattle.rules.specs.Descents.{within, under_when, under_urgent, descend}
use Rattle.paths.specs.Sheets.{term_at, span_at}
use Rattle.paths.proofs.Loading.{loaded}
use Rattle.paths.proofs.Descending.{shape_falls, descended, roomy}
use Rattle.paths.proofs.descend.+descend.Goals as goal

pub descend-requires : goal.descend-requires
descend-requires t c =
    let f = shape_falls _ _ (loaded c.args.model.now) c.args.number _ c.in-Both.ensures in
    (omega (arith, f.0, c.decreases), tt)

pub descend-requires-else-id-split : goal.descend-requires-else-id-split
descend-requires-else-id-split t c =
    let f = shape_falls _ _ (loaded c.args.model.now) c.args.number _ c.in-Both.ensures in
    (omega (arith, f.1.0, c.decreases), tt)

pub descend-requires-in-Framed : goal.descend-requires-in-Framed
descend-requires-in-Framed t c =
    let f = shape_falls _ _ (loaded c.args.model.now) c.args.number _ c.in-Framed.ensures in
    (omega (arith, f.0, c.decreases), tt)

pub descend-requires-in-When : goal.descend-requires-in-When
descend-requires-in-When t c =
    let f = shape_falls _ _ (loaded c.args.model.now) c.args.number _ c.in-When.ensures in
    (omega (arith, f.0, c.decreases), tt)

pub descend-requires-in-Urgent : goal.descend-requires-in-Urgent
descend-requires-in-Urgent t c =
    let f = shape_falls _ _ (loaded c.args.model.now) c.args.number _ c.in-Urgent.ensures in
    (omega (arith, f.0, c.decreases), tt)

pub descend-requires-in-Inner : goal.descend-requires-in-Inner
descend-requires-in-Inner t c =
    let f = shape_falls _ _ (loaded c.args.model.now) c.args.number _ c.in-Inner.ensures in
    (omega (arith, f.0, c.decreases), tt)

pub returns-in-Nothing : goal.returns-in-Nothing
returns-in-Nothing t c = descended _ _ (loaded c.args.model.now) c.args.number c.args.id _ None c.in-Nothing.ensures (λ k h. refl)

pub returns-in-Own : goal.returns-in-Own
returns-in-Own t c = descended _ _ (loaded c.args.model.now) c.args.number c.args.id _ _ c.in-Own.ensures (λ k h. c.arriving.ensures)

pub returns-then-id-split : goal.returns-then-id-split
returns-then-id-split t c =
    let f = shape_falls _ _ (loaded c.args.model.now) c.args.number _ c.in-Both.ensures in
    descended _ _ (loaded c.args.model.now) c.args.number c.args.id _ _ c.in-Both.ensures
    (λ k h. c.descend.ensures k (omega (arith, f.0)) ∙ cond_below c.args.id (span_at (vec_items c.args.model.now.table) c.in-Both.first) _ _ (omega (arith, c.slots-split.ensures)))

pub returns-else-id-split : goal.returns-else-id-split
returns-else-id-split t c =
    let f = shape_falls _ _ (loaded c.args.model.now) c.args.number _ c.in-Both.ensures in
    descended _ _ (loaded c.args.model.now) c.args.number c.args.id _ _ c.in-Both.ensures
    (λ k h. cond_above c.args.id (span_at (vec_items c.args.model.now.table) c.in-Both.first) _ _ _ (omega (arith, c.slots-split.ensures))
    (c.descend-else-id-split.ensures k (omega (arith, f.1.0))
    ∙ ap (λ n. descend (term_at (vec_items c.args.model.now.words)) (span_at (vec_items c.args.model.now.table)) k c.in-Both.second (c.args.id - n)) c.slots-split.ensures))

pub returns-in-Inner : goal.returns-in-Inner
returns-in-Inner t c =
    let f = shape_falls _ _ (loaded c.args.model.now) c.args.number _ c.in-Inner.ensures in
    descended _ _ (loaded c.args.model.now) c.args.number c.args.id _ _ c.in-Inner.ensures
    (λ k h. c.descend-in-Inner.ensures k (omega (arith, f.0)))

pub under-requires : goal.under-requires
under-requires t c = roomy _ _ (loaded c.args.model.now) _ _ _ c.descend-in-Framed.ensures

pub returns-in-Framed : goal.returns-in-Framed
returns-in-Framed t c =
    let f = shape_falls _ _ (loaded c.args.model.now) c.args.number _ c.in-Framed.ensures in
    descended _ _ (loaded c.args.model.now) c.args.number c.args.id _ _ c.in-Framed.ensures
    (λ k h. c.under.ensures ∙ ap (option_map (within (c.args.number ∷ []))) (c.descend-in-Framed.ensures k (omega (arith, f.0))))

pub under-requires-in-When : goal.under-requires-in-When
under-requires-in-When t c = roomy _ _ (loaded c.args.model.now) _ _ _ c.descend-in-When.ensures

pub returns-in-When : goal.returns-in-When
returns-in-When t c =
    let f = shape_falls _ _ (loaded c.args.model.now) c.args.number _ c.in-When.ensures in
    descended _ _ (loaded c.args.model.now) c.args.number c.args.id _ _ c.in-When.ensures
    (λ k h. c.under-in-When.ensures ∙ ap (option_map (under_when c.in-When.condition)) (c.descend-in-When.ensures k (omega (arith, f.0))))

pub under-requires-in-Urgent : goal.under-requires-in-Urgent
under-requires-in-Urgent t c = roomy _ _ (loaded c.args.model.now) _ _ _ c.descend-in-Urgent.ensures

pub returns-in-Urgent : goal.returns-in-Urgent
returns-in-Urgent t c =
    let f = shape_falls _ _ (loaded c.args.model.now) c.args.number _ c.in-Urgent.ensures in
    descended _ _ (loaded c.args.model.now) c.args.number c.args.id _ _ c.in-Urgent.ensures
    (λ k h. c.under-in-Urgent.ensures ∙ ap (option_map (under_urgent c.in-Urgent.condition)) (c.descend-in-Urgent.ensures k (omega (arith, f.0))))
