mod Steps
mod Trees
mod Life
