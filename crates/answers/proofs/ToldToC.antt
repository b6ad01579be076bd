-- What C is told of a refusal and of an acceptance, by computation.
use mathlib.Core.Path.{◌≡◌, refl}
use Rattle.sheet.specs.Asking.Verdict.{accepted, refused}
use Rattle.answers.specs.Answers.{answer_of}

pub told_to_c : (answer_of (refused 23 5) ≡ record { number = 23; place = 5; count = 0 })
    × (answer_of (accepted 7) ≡ record { number = 0; place = 0; count = 7 })
told_to_c = (refl, refl)
