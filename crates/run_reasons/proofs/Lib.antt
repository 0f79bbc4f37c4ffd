mod TagSlots
mod LinesTaken
mod Ends
