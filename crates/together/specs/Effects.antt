-- The effects of a problem, list by list.
use Rattle.std.specs.Prelude.{ℕ, ◌≡◌, ◌≤◌, List, length}
use Rattle.words.specs.Rows.{row_length, Inside}

-- as many of each, one for each row of a table at most, and the sets of what they need and delete, and of what adds, are of rows
pub record Effecting (needs adds dels interferers adders : List ℕ) : Type 0 where
  pub few : length needs ≤ row_length
  pub needs_inside : Inside row_length needs
  pub adds_long : length adds ≡ length needs
  pub dels_long : length dels ≡ length needs
  pub dels_inside : Inside row_length dels
  pub interferers_long : length interferers ≡ length needs
  pub adders_few : length adders ≤ row_length
  pub adders_inside : Inside row_length adders
