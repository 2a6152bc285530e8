-- What a failure mode is, in words (SAE J1939-73, Appendix A, from memory).
use Rattle.std.specs.Prelude.{ℕ, ◌==◌, if◌then◌else◌, List, codes}

abbrev pub failure_mode_text : ℕ → List ℕ
failure_mode_text fmi =
    if fmi == 0 then codes "above normal, most severe"
    else if fmi == 1 then codes "below normal, most severe"
    else if fmi == 2 then codes "erratic or incorrect data"
    else if fmi == 3 then codes "voltage above normal or shorted high"
    else if fmi == 4 then codes "voltage below normal or shorted low"
    else if fmi == 5 then codes "current below normal or open circuit"
    else if fmi == 6 then codes "current above normal or grounded"
    else if fmi == 7 then codes "mechanical system not responding"
    else if fmi == 8 then codes "abnormal frequency or pulse width"
    else if fmi == 9 then codes "abnormal update rate"
    else if fmi == 10 then codes "abnormal rate of change"
    else if fmi == 11 then codes "failure mode not identifiable"
    else if fmi == 12 then codes "bad device"
    else if fmi == 13 then codes "out of calibration"
    else if fmi == 14 then codes "special instructions"
    else if fmi == 15 then codes "above normal, least severe"
    else if fmi == 16 then codes "above normal, moderately severe"
    else if fmi == 17 then codes "below normal, least severe"
    else if fmi == 18 then codes "below normal, moderately severe"
    else if fmi == 19 then codes "received network data in error"
    else if fmi == 20 then codes "data drifted high"
    else if fmi == 21 then codes "data drifted low"
    else if fmi == 31 then codes "condition exists"
    else codes "reserved failure mode"
