use Rattle.std.proofs.Common.{◌≡◌, ◌/◌, ◌&&◌, length, sym, ap, ◌∙◌, rules, tests, arith}
use Rattle.std.proofs.lemmas.Bool.{eq-eqb}
use Rattle.std.proofs.lemmas.Iterator.{YieldsList-from_slice}
use Rattle.std.proofs.lemmas.Iterator.Consumers.{YieldsList-from_enumerate}
use Rattle.std.proofs.lemmas.Iterator.Search.{all_from_yields_List}
use Rattle.std.specs.List.{enumerate_from, list_all}
use Rattle.std.specs.Simd.{first_chunks}
use Rattle.rows.specs.Carriers.{cells_fit}
use Rattle.rows.proofs.FitLaws.{band_fits, bands_fit}
use Rattle.rows.proofs.carriers.row_fits.Goals as goal

pub returns-then-row-eq-CARRIERS : goal.returns-then-row-eq-CARRIERS
returns-then-row-eq-CARRIERS c =
    let row = c.args.row.now in
    let long : length row ≡ 36 = c.if-row-eq-CARRIERS.true in
    let six : length row / 6 ≡ 6 = omega arith in
    all_from_yields_List (band_fits c.args.tm) _ _ _ c.all.ensures.ran (YieldsList-from_enumerate (YieldsList-from_slice c.as_chunks.result.0.now cc) (cc)) (λ x b q k. search (rules, tests))
    ∙ ap (λ bands. list_all (band_fits c.args.tm) (enumerate_from 0 bands)) (c.as_chunks.ensures.front ∙ ap (λ n. first_chunks 6 n row) six)
    ∙ bands_fit c.args.tm 0 6 row (omega arith) (omega arith)
    ∙ sym (ap (λ b. b && cells_fit c.args.tm 0 row) (eq-eqb (length row) 36 long))
