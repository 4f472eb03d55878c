mod Asks
