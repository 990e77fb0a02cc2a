use Rattle.search.proofs.inquiry.Inquiry.usable.Goals as goal

pub returns : goal.returns
returns g c = λ s. (c.each.ensures s).1
