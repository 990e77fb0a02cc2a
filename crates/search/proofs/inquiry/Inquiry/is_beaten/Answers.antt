use Rattle.std.proofs.Common.{◌<◌, ◌≤◌, suc, length, IfSome, ap, ◌∙◌, sym, subst, arith}
use Rattle.search.specs.Notes.{label_of_layer}
use Rattle.search.specs.Working.{layer_at, costs_no_more}
use Rattle.search.proofs.Layering.{next_layer, layers_below}
use Rattle.search.proofs.inquiry.Inquiry.is_beaten.Goals as goal

pub costs_no_more-requires : goal.costs_no_more-requires
costs_no_more-requires g c =
    let a = c.args in
    let size = length a.self.now.stops.now in
    let k = c.in-Some.before in
    let earlier : k < a.layer.number = subst (λ o. IfSome o (λ j. j < a.layer.number)) c.in-Some.is c.requires.latest.earlier in
    let more : layer_at size (suc k) ≤ layer_at size a.layer.number = layers_below size (suc k) a.layer.number earlier in
    record { within = omega (arith, next_layer size k, more) }

pub returns : goal.returns
returns g c =
    let a = c.args in
    let m = g.P.Tariff.meaning a.self.now.tariff.now in
    let size = length a.self.now.stops.now in
    c.costs_no_more.ensures ∙ ap (λ o. costs_no_more m (label_of_layer m size a.work.now a.place o) a.total) (sym c.in-Some.is) ∙ c.requires.latest.as_all a.total
