-- The comments of rules.
use Rattle.std.specs.Prelude.{◌++◌, List, [], ◌∷◌, if◌then◌else◌}
use Rattle.gtd_hours_items.specs.declared.items.Item.{Item}
use Rattle.gtd_hours_items.specs.declared.items.What.{What}
use Rattle.gtd_hours_items.specs.declared.items.What.TheVariants as what
use Rattle.gtd_hours_holiday_rules.specs.Rules.{begins_rule, link_behind}
use Rattle.gtd_hours_holiday_rules.specs.declared.parts.Part.{Part}
use Rattle.gtd_hours_mended.specs.declared.comments.Comments.{Comments}
use Rattle.gtd_hours_mended.specs.declared.comments.Stretch.{Stretch}

abbrev pub no_comment : Stretch
no_comment = record { from = 0; to = 0 }

abbrev pub stretch_by : What → Stretch → Stretch → Stretch
stretch_by what.Comment own comment = own
stretch_by w own comment = comment

-- the comment of a rule behind one item more
abbrev pub comment_behind : Stretch → Item → Stretch
comment_behind comment item = stretch_by item.what (record { from = item.from; to = item.to }) comment

-- Where the comments of the rules of the parts that are left stand, where the last rule so far has this one.
abbrev pub comments_from : Stretch → List Part → List Stretch
comments_from comment [] = comment ∷ []
comments_from comment (part ∷ parts) =
    if begins_rule (link_behind part.role) then comment ∷ comments_from no_comment parts
    else comments_from (comment_behind comment part.item) parts

abbrev pub comments_of : List Part → List Stretch
comments_of parts = comments_from no_comment parts

-- ---- as the code has come so far

abbrev pub all_comments : Comments → List Part → List Stretch
all_comments comments parts = comments.ended.items ++ comments_from comments.last parts
