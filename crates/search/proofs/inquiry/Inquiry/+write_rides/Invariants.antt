use Rattle.search.proofs.inquiry.Inquiry.+write_rides.Given as goal

abbrev pub decreases-write_rides : goal.decreases-write_rides
decreases-write_rides g l = l.layer.number
