use Rattle.zw_scan.proofs.scan.Scan.children.Goals as goal

pub returns : goal.returns
returns c names layout tree scan distinct named =
    let rows = c.in_ok-rows.ensures names layout tree scan distinct named in
    let wrong = c.in_ok-wrong.ensures names layout tree scan distinct named in
    λ i. record { rows = rows i; wrong = wrong i }
