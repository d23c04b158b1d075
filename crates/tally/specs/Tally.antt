-- "Tally. One small record of the caller's, brought up to date in place: deliveries done, offers taken, calls refused."
use Rattle.std.specs.Prelude.{ℕ, ◌+◌, min, Result, Ok, Err, Option, Some, None}
use Rattle.table.specs.declared.Ran.{Ran}
use Rattle.tally.specs.declared.Tally.{Tally}

-- "Each field stops at 4,294,967,295."
abbrev pub capped : ℕ → ℕ
capped x = min x 4294967295

abbrev pub added_to : Tally → ℕ → ℕ → ℕ → Tally
added_to t deliveries offers refused = record {
  deliveries = capped (t.deliveries + deliveries);
  offers = capped (t.offers + offers);
  refused = capped (t.refused + refused);
}

-- "It goes with deliver and run": a delivery adds itself and the rows that took its offer, a refusal one refused call
abbrev pub after_delivery : {E : Type 0} → Tally → Result ℕ E → Tally
after_delivery t (Ok rows) = added_to t 1 rows 0
after_delivery t (Err e) = added_to t 0 0 1

-- "a run adds its deliveries and their offers, and one refused call where it ends in a refusal"
abbrev pub calls_refused : {E : Type 0} → Option E → ℕ
calls_refused None = 0
calls_refused (Some e) = 1

abbrev pub after_run : {E : Type 0} → Tally → Ran E → Tally
after_run t ran = added_to t ran.done ran.offers (calls_refused ran.refused)
