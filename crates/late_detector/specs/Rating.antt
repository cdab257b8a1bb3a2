-- A rating as the code has it.
use Rattle.tw_num.specs.Rate.{Rate}
use Rattle.late_detector.specs.declared.rating.Rating.{Rating}
use Rattle.late_detector.specs.declared.rating.Rating.TheVariants as ratings

-- what a rate is called
abbrev pub rating : Rate → Rating
rating (Rate.Timely bound) = ratings.Timely bound
rating (Rate.Late bound) = ratings.Late bound
rating Rate.Unrated = ratings.Unrated
