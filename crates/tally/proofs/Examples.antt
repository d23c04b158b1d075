-- The tally in numbers: each counter by itself, and each stops at its largest value.
use mathlib.Core.Path.{◌≡◌, refl}
use Rattle.std.specs.Prelude.{Ok, Err, Some}
use Rattle.refusal.specs.declared.Refusal.{Refusal}
use Rattle.tally.specs.Tally.{added_to, after_delivery, after_run}

three_rows : after_delivery {E = Refusal} (record { deliveries = 10; offers = 20; refused = 30 }) (Ok 3)
    ≡ record { deliveries = 11; offers = 23; refused = 30 }
three_rows = refl

one_refused : after_delivery (record { deliveries = 10; offers = 20; refused = 30 }) (Err Refusal.NoMessage)
    ≡ record { deliveries = 10; offers = 20; refused = 31 }
one_refused = refl

-- a run that ended in refusal 7 after 4 deliveries with 6 offers
broken_run : after_run (record { deliveries = 10; offers = 20; refused = 30 }) (record { done = 4; offers = 6; refused = Some Refusal.Broken })
    ≡ record { deliveries = 14; offers = 26; refused = 31 }
broken_run = refl

full : added_to (record { deliveries = 4294967295; offers = 4294967290; refused = 0 }) 1 6 0 ≡ record {
  deliveries = 4294967295;
  offers = 4294967295;
  refused = 0;
}
full = refl
